-- Whether two pieces, nodes or rules are equal, as a test: of one variant, with equal parts. A test answers
-- `true` exactly where the two are equal, and so is an equivalence.
use Rattle.std.specs.Prelude.{◌≡◌, Bool, true, false, ◌&&◌, nat_eq, refl}
use Rattle.std.specs.Bool.{Decides}
use Rattle.std.specs.Cmp.{IsEquivalence, unsigned_Decides}
use Rattle.std.proofs.Common.{ap, ap₂, subst, ◌∙◌}
use Rattle.std.proofs.lemmas.Bool.{false≢true, and_parts, and_from}
use Rattle.base_language.specs.Language.Text.{Text}
use Rattle.base_language.specs.Language.Expression.{RuleType}
use Rattle.base_language.specs.Rewritings.Equality.{text_eq, text_eq-Decides, expression_eq, expression_eq-Decides, rule_type_eq, rule_type_eq-Decides, deciding_equiv}
use Rattle.front_spanned.specs.Spanned.{Span, Unary, PosPred, NegPred, Opt, Rep, RepOnce, RepExact, RepMin, RepMax, RepMinMax, Push, Tag, Binary, Seq, Choice, Spanned, Leaf, One, Two, SpannedRule}

-- equal text, start and end
abbrev pub span_eq : Span → Span → Bool
span_eq s t = text_eq s.text t.text && nat_eq s.start t.start && nat_eq s.end t.end

abbrev pub unary_eq : Unary → Unary → Bool
unary_eq PosPred PosPred = true
unary_eq NegPred NegPred = true
unary_eq Opt Opt = true
unary_eq Rep Rep = true
unary_eq RepOnce RepOnce = true
unary_eq (RepExact i) (RepExact j) = nat_eq i j
unary_eq (RepMin i) (RepMin j) = nat_eq i j
unary_eq (RepMax i) (RepMax j) = nat_eq i j
unary_eq (RepMinMax i k) (RepMinMax j l) = nat_eq i j && nat_eq k l
unary_eq Push Push = true
unary_eq (Tag t) (Tag u) = text_eq t u
unary_eq _ _ = false

abbrev pub binary_eq : Binary → Binary → Bool
binary_eq Seq Seq = true
binary_eq Choice Choice = true
binary_eq _ _ = false

abbrev pub spanned_eq : Spanned → Spanned → Bool
spanned_eq (Leaf s a) (Leaf t b) = span_eq s t && expression_eq a b
spanned_eq (One s f x) (One t g y) = span_eq s t && (unary_eq f g && spanned_eq x y)
spanned_eq (Two s f x y) (Two t g z w) = span_eq s t && (binary_eq f g && (spanned_eq x z && spanned_eq y w))
spanned_eq _ _ = false

abbrev pub rule_eq : SpannedRule → SpannedRule → Bool
rule_eq r q = text_eq r.name q.name && span_eq r.span q.span && rule_type_eq r.type_of q.type_of
    && spanned_eq r.body q.body

-- a test that answers `true` at equal ones alone, and there, decides equality
module _ {A : Type 0} (test : A → A → Bool) (equal : (x y : A) → test x y ≡ true → x ≡ y) (itself : (x : A)
    → test x x ≡ true) where
  decides : (x y : A) → Decides (test x y) (x ≡ y)
  decides x y = (equal x y, (λ h. subst (λ z. test x z ≡ true) h (itself x)))

same_text : (t : Text) → text_eq t t ≡ true
same_text t = (text_eq-Decides t t).1 refl

same_number : (i : _) → nat_eq i i ≡ true
same_number i = (unsigned_Decides i i).1 refl

equal_spans : (s t : Span) → span_eq s t ≡ true → s ≡ t
equal_spans s t h =
    let (i, l) = and_parts _ _ h in
    let (j, k) = and_parts _ _ i in
    let span : Text → _ → _ → Span = λ x m n. record { text = x; start = m; end = n } in
    ap (λ x. span x s.start s.end) ((text_eq-Decides s.text t.text).0 j)
    ∙ ap₂ (span t.text) ((unsigned_Decides s.start t.start).0 k) ((unsigned_Decides s.end t.end).0 l)

span_itself : (s : Span) → span_eq s s ≡ true
span_itself s = and_from _ _ (and_from _ _ (same_text s.text) (same_number s.start)) (same_number s.end)

pub span_eq-Decides : (s t : Span) → Decides (span_eq s t) (s ≡ t)
span_eq-Decides = decides span_eq equal_spans span_itself

equal_unaries : (f g : Unary) → unary_eq f g ≡ true → f ≡ g
equal_unaries PosPred PosPred h = refl
equal_unaries NegPred NegPred h = refl
equal_unaries Opt Opt h = refl
equal_unaries Rep Rep h = refl
equal_unaries RepOnce RepOnce h = refl
equal_unaries (RepExact i) (RepExact j) h = ap RepExact ((unsigned_Decides i j).0 h)
equal_unaries (RepMin i) (RepMin j) h = ap RepMin ((unsigned_Decides i j).0 h)
equal_unaries (RepMax i) (RepMax j) h = ap RepMax ((unsigned_Decides i j).0 h)
equal_unaries (RepMinMax i k) (RepMinMax j l) h =
    let (p, q) = and_parts _ _ h in ap₂ RepMinMax ((unsigned_Decides i j).0 p) ((unsigned_Decides k l).0 q)
equal_unaries Push Push h = refl
equal_unaries (Tag t) (Tag u) h = ap Tag ((text_eq-Decides t u).0 h)
equal_unaries _ _ h = absurd (false≢true h)

unary_itself : (f : Unary) → unary_eq f f ≡ true
unary_itself PosPred = refl
unary_itself NegPred = refl
unary_itself Opt = refl
unary_itself Rep = refl
unary_itself RepOnce = refl
unary_itself (RepExact i) = same_number i
unary_itself (RepMin i) = same_number i
unary_itself (RepMax i) = same_number i
unary_itself (RepMinMax i j) = and_from _ _ (same_number i) (same_number j)
unary_itself Push = refl
unary_itself (Tag t) = same_text t

equal_binaries : (f g : Binary) → binary_eq f g ≡ true → f ≡ g
equal_binaries Seq Seq h = refl
equal_binaries Choice Choice h = refl
equal_binaries _ _ h = absurd (false≢true h)

binary_itself : (f : Binary) → binary_eq f f ≡ true
binary_itself Seq = refl
binary_itself Choice = refl

equal_nodes : (x y : Spanned) → spanned_eq x y ≡ true → x ≡ y
equal_nodes (Leaf s a) (Leaf t b) h =
    let (p, q) = and_parts _ _ h in ap₂ Leaf (equal_spans s t p) ((expression_eq-Decides a b).0 q)
equal_nodes (One s f x) (One t g y) h =
    let (p, i) = and_parts _ _ h in
    let (q, r) = and_parts _ _ i in
    ap₂ (λ u k. One u k x) (equal_spans s t p) (equal_unaries f g q) ∙ ap (One t g) (equal_nodes x y r)
equal_nodes (Two s f x y) (Two t g z w) h =
    let (p, i) = and_parts _ _ h in
    let (q, j) = and_parts _ _ i in
    let (k, l) = and_parts _ _ j in
    ap₂ (λ u v. Two u v x y) (equal_spans s t p) (equal_binaries f g q) ∙ ap₂ (Two t g) (equal_nodes x z k)
    (equal_nodes y w l)
equal_nodes _ _ h = absurd (false≢true h)

node_itself : (x : Spanned) → spanned_eq x x ≡ true
node_itself (Leaf s a) = and_from _ _ (span_itself s) ((expression_eq-Decides a a).1 refl)
node_itself (One s f x) = and_from _ _ (span_itself s) (and_from _ _ (unary_itself f) (node_itself x))
node_itself (Two s f x y) =
    and_from _ _ (span_itself s) (and_from _ _ (binary_itself f)
    (and_from _ _ (node_itself x) (node_itself y)))

pub spanned_eq-Decides : (x y : Spanned) → Decides (spanned_eq x y) (x ≡ y)
spanned_eq-Decides = decides spanned_eq equal_nodes node_itself

abbrev rule_with : Text → Span → RuleType → Spanned → SpannedRule
rule_with n s t x = record { name = n; span = s; type_of = t; body = x }

equal_rules : (r q : SpannedRule) → rule_eq r q ≡ true → r ≡ q
equal_rules r q h =
    let (i, m) = and_parts _ _ h in
    let (j, l) = and_parts _ _ i in
    let (n, k) = and_parts _ _ j in
    ap₂ (λ a b. rule_with a b r.type_of r.body) ((text_eq-Decides r.name q.name).0 n)
    (equal_spans r.span q.span k)
    ∙ ap₂ (rule_with q.name q.span) ((rule_type_eq-Decides r.type_of q.type_of).0 l)
    (equal_nodes r.body q.body m)

rule_itself : (r : SpannedRule) → rule_eq r r ≡ true
rule_itself r =
    and_from _ _
    (and_from _ _ (and_from _ _ (same_text r.name) (span_itself r.span))
    ((rule_type_eq-Decides r.type_of r.type_of).1 refl))
    (node_itself r.body)

pub rule_eq-Decides : (r q : SpannedRule) → Decides (rule_eq r q) (r ≡ q)
rule_eq-Decides = decides rule_eq equal_rules rule_itself

pub spanned_eq_equiv : IsEquivalence spanned_eq
spanned_eq_equiv = deciding_equiv spanned_eq spanned_eq-Decides

pub rule_eq_equiv : IsEquivalence rule_eq
rule_eq_equiv = deciding_equiv rule_eq rule_eq-Decides
