-- Whether two texts, expressions or rules are equal, as a test: of one variant, with equal parts. A test
-- answers `true` exactly where the two are equal, and so is an equivalence.
use Rattle.std.specs.Prelude.{◌≡◌, ℤ, Bool, true, false, ◌&&◌, Option, Some, None, List, nat_eq, refl}
use Rattle.std.specs.Ordering.{int_eq}
use Rattle.std.specs.Option.{option_eq}
use Rattle.std.specs.Bool.{Decides}
use Rattle.std.specs.Cmp.{IsEquivalence, unsigned_Decides, signed_Decides}
use Rattle.std.proofs.Common.{sym, ap, ap₂, subst, ◌∙◌}
use Rattle.std.proofs.lemmas.Bool.{false≢true}
use Rattle.std.proofs.lemmas.Slice.Eq.{slice_eq-Decides}
use lib.Pointwise.{pointwise}
use Rattle.base_language.specs.Language.Text.{Text}
use Rattle.base_language.specs.Language.Expression.{Expression, Str, Insens, Range, Ident, PeekSlice, PosPred, NegPred, Seq, Choice, Opt, Rep, RepOnce, RepExact, RepMin, RepMax, RepMinMax, Skip, Push, RestoreOnErr, RuleType, Normal, Silent, Atomic, CompoundAtomic, NonAtomic, Rule, PushLiteral, NodeTag}

-- character by character
abbrev pub text_eq : Text → Text → Bool
text_eq t u = pointwise nat_eq t u

-- text by text
abbrev pub texts_eq : List Text → List Text → Bool
texts_eq ts us = pointwise text_eq ts us

abbrev pub expression_eq : Expression → Expression → Bool
expression_eq (Str t) (Str u) = text_eq t u
expression_eq (Insens t) (Insens u) = text_eq t u
expression_eq (Range t v) (Range u w) = text_eq t u && text_eq v w
expression_eq (Ident t) (Ident u) = text_eq t u
expression_eq (PeekSlice i j) (PeekSlice k l) = int_eq i k && option_eq int_eq j l
expression_eq (PosPred x) (PosPred y) = expression_eq x y
expression_eq (NegPred x) (NegPred y) = expression_eq x y
expression_eq (Seq x y) (Seq z w) = expression_eq x z && expression_eq y w
expression_eq (Choice x y) (Choice z w) = expression_eq x z && expression_eq y w
expression_eq (Opt x) (Opt y) = expression_eq x y
expression_eq (Rep x) (Rep y) = expression_eq x y
expression_eq (RepOnce x) (RepOnce y) = expression_eq x y
expression_eq (RepExact x i) (RepExact y j) = expression_eq x y && nat_eq i j
expression_eq (RepMin x i) (RepMin y j) = expression_eq x y && nat_eq i j
expression_eq (RepMax x i) (RepMax y j) = expression_eq x y && nat_eq i j
expression_eq (RepMinMax x i k) (RepMinMax y j l) = expression_eq x y && nat_eq i j && nat_eq k l
expression_eq (Skip ts) (Skip us) = texts_eq ts us
expression_eq (Push x) (Push y) = expression_eq x y
expression_eq (PushLiteral t) (PushLiteral u) = text_eq t u
expression_eq (NodeTag x t) (NodeTag y u) = expression_eq x y && text_eq t u
expression_eq (RestoreOnErr x) (RestoreOnErr y) = expression_eq x y
expression_eq _ _ = false

abbrev pub rule_type_eq : RuleType → RuleType → Bool
rule_type_eq Normal Normal = true
rule_type_eq Silent Silent = true
rule_type_eq Atomic Atomic = true
rule_type_eq CompoundAtomic CompoundAtomic = true
rule_type_eq NonAtomic NonAtomic = true
rule_type_eq _ _ = false

abbrev pub rule_eq : Rule → Rule → Bool
rule_eq r q = text_eq r.name q.name && rule_type_eq r.type_of q.type_of && expression_eq r.body q.body

-- a test that answers `true` at equal ones alone, and there, decides equality
module _ {A : Type 0} (test : A → A → Bool) (equal : (x y : A) → test x y ≡ true → x ≡ y) (itself : (x : A)
    → test x x ≡ true) where
  decides : (x y : A) → Decides (test x y) (x ≡ y)
  decides x y = (equal x y, (λ h. subst (λ z. test x z ≡ true) h (itself x)))

-- both parts of a test
parts : (p q : Bool) → (p && q) ≡ true → (p ≡ true) × (q ≡ true)
parts true q h = (refl, h)
parts false q h = absurd (false≢true h)

both : {p q : Bool} → p ≡ true → q ≡ true → (p && q) ≡ true
both {p} {q} h i = subst (λ x. (x && q) ≡ true) (sym h) i

pub text_eq-Decides : (t u : Text) → Decides (text_eq t u) (t ≡ u)
text_eq-Decides t u = slice_eq-Decides unsigned_Decides t u _ refl

pub texts_eq-Decides : (ts us : List Text) → Decides (texts_eq ts us) (ts ≡ us)
texts_eq-Decides ts us = slice_eq-Decides text_eq-Decides ts us _ refl

equal_ends : (i j : Option ℤ) → option_eq int_eq i j ≡ true → i ≡ j
equal_ends None None h = refl
equal_ends (Some i) (Some j) h = ap Some ((signed_Decides i j).0 h)
equal_ends _ _ h = absurd (false≢true h)

end_itself : (i : Option ℤ) → option_eq int_eq i i ≡ true
end_itself None = refl
end_itself (Some i) = (signed_Decides i i).1 refl

equal_expressions : (a b : Expression) → expression_eq a b ≡ true → a ≡ b
equal_expressions (Str t) (Str u) h = ap Str ((text_eq-Decides t u).0 h)
equal_expressions (Insens t) (Insens u) h = ap Insens ((text_eq-Decides t u).0 h)
equal_expressions (Range t v) (Range u w) h =
    let (p, q) = parts _ _ h in ap₂ Range ((text_eq-Decides t u).0 p) ((text_eq-Decides v w).0 q)
equal_expressions (Ident t) (Ident u) h = ap Ident ((text_eq-Decides t u).0 h)
equal_expressions (PeekSlice i j) (PeekSlice k l) h =
    let (p, q) = parts _ _ h in ap₂ PeekSlice ((signed_Decides i k).0 p) (equal_ends j l q)
equal_expressions (PosPred x) (PosPred y) h = ap PosPred (equal_expressions x y h)
equal_expressions (NegPred x) (NegPred y) h = ap NegPred (equal_expressions x y h)
equal_expressions (Seq x y) (Seq z w) h =
    let (p, q) = parts _ _ h in ap₂ Seq (equal_expressions x z p) (equal_expressions y w q)
equal_expressions (Choice x y) (Choice z w) h =
    let (p, q) = parts _ _ h in ap₂ Choice (equal_expressions x z p) (equal_expressions y w q)
equal_expressions (Opt x) (Opt y) h = ap Opt (equal_expressions x y h)
equal_expressions (Rep x) (Rep y) h = ap Rep (equal_expressions x y h)
equal_expressions (RepOnce x) (RepOnce y) h = ap RepOnce (equal_expressions x y h)
equal_expressions (RepExact x i) (RepExact y j) h =
    let (p, q) = parts _ _ h in ap₂ RepExact (equal_expressions x y p) ((unsigned_Decides i j).0 q)
equal_expressions (RepMin x i) (RepMin y j) h =
    let (p, q) = parts _ _ h in ap₂ RepMin (equal_expressions x y p) ((unsigned_Decides i j).0 q)
equal_expressions (RepMax x i) (RepMax y j) h =
    let (p, q) = parts _ _ h in ap₂ RepMax (equal_expressions x y p) ((unsigned_Decides i j).0 q)
equal_expressions (RepMinMax x i k) (RepMinMax y j l) h =
    let (p, q) = parts _ _ h in
    let (r, s) = parts _ _ p in
    ap (λ z. RepMinMax z i k) (equal_expressions x y r) ∙ ap₂ (RepMinMax y) ((unsigned_Decides i j).0 s)
    ((unsigned_Decides k l).0 q)
equal_expressions (Skip ts) (Skip us) h = ap Skip ((texts_eq-Decides ts us).0 h)
equal_expressions (Push x) (Push y) h = ap Push (equal_expressions x y h)
equal_expressions (PushLiteral t) (PushLiteral u) h = ap PushLiteral ((text_eq-Decides t u).0 h)
equal_expressions (NodeTag x t) (NodeTag y u) h =
    let (p, q) = parts _ _ h in ap₂ NodeTag (equal_expressions x y p) ((text_eq-Decides t u).0 q)
equal_expressions (RestoreOnErr x) (RestoreOnErr y) h = ap RestoreOnErr (equal_expressions x y h)
equal_expressions _ _ h = absurd (false≢true h)

expression_itself : (a : Expression) → expression_eq a a ≡ true
expression_itself (Str t) = (text_eq-Decides t t).1 refl
expression_itself (Insens t) = (text_eq-Decides t t).1 refl
expression_itself (Range t u) = both ((text_eq-Decides t t).1 refl) ((text_eq-Decides u u).1 refl)
expression_itself (Ident t) = (text_eq-Decides t t).1 refl
expression_itself (PeekSlice i j) = both ((signed_Decides i i).1 refl) (end_itself j)
expression_itself (PosPred x) = expression_itself x
expression_itself (NegPred x) = expression_itself x
expression_itself (Seq x y) = both (expression_itself x) (expression_itself y)
expression_itself (Choice x y) = both (expression_itself x) (expression_itself y)
expression_itself (Opt x) = expression_itself x
expression_itself (Rep x) = expression_itself x
expression_itself (RepOnce x) = expression_itself x
expression_itself (RepExact x i) = both (expression_itself x) ((unsigned_Decides i i).1 refl)
expression_itself (RepMin x i) = both (expression_itself x) ((unsigned_Decides i i).1 refl)
expression_itself (RepMax x i) = both (expression_itself x) ((unsigned_Decides i i).1 refl)
expression_itself (RepMinMax x i j) =
    both (both (expression_itself x) ((unsigned_Decides i i).1 refl)) ((unsigned_Decides j j).1 refl)
expression_itself (Skip ts) = (texts_eq-Decides ts ts).1 refl
expression_itself (Push x) = expression_itself x
expression_itself (PushLiteral t) = (text_eq-Decides t t).1 refl
expression_itself (NodeTag x t) = both (expression_itself x) ((text_eq-Decides t t).1 refl)
expression_itself (RestoreOnErr x) = expression_itself x

pub expression_eq-Decides : (a b : Expression) → Decides (expression_eq a b) (a ≡ b)
expression_eq-Decides = decides expression_eq equal_expressions expression_itself

equal_rule_types : (y z : RuleType) → rule_type_eq y z ≡ true → y ≡ z
equal_rule_types Normal Normal h = refl
equal_rule_types Silent Silent h = refl
equal_rule_types Atomic Atomic h = refl
equal_rule_types CompoundAtomic CompoundAtomic h = refl
equal_rule_types NonAtomic NonAtomic h = refl
equal_rule_types _ _ h = absurd (false≢true h)

rule_type_itself : (y : RuleType) → rule_type_eq y y ≡ true
rule_type_itself Normal = refl
rule_type_itself Silent = refl
rule_type_itself Atomic = refl
rule_type_itself CompoundAtomic = refl
rule_type_itself NonAtomic = refl

pub rule_type_eq-Decides : (y z : RuleType) → Decides (rule_type_eq y z) (y ≡ z)
rule_type_eq-Decides = decides rule_type_eq equal_rule_types rule_type_itself

abbrev rule_with : Text → RuleType → Expression → Rule
rule_with n y e = record { name = n; type_of = y; body = e }

equal_rules : (r q : Rule) → rule_eq r q ≡ true → r ≡ q
equal_rules r q h =
    let (i, j) = parts _ _ h in
    let (k, l) = parts _ _ i in
    ap (λ n. rule_with n r.type_of r.body) ((text_eq-Decides r.name q.name).0 k)
    ∙ ap₂ (rule_with q.name) ((rule_type_eq-Decides r.type_of q.type_of).0 l)
    (equal_expressions r.body q.body j)

rule_itself : (r : Rule) → rule_eq r r ≡ true
rule_itself r =
    both (both ((text_eq-Decides r.name r.name).1 refl) (rule_type_itself r.type_of))
    (expression_itself r.body)

pub rule_eq-Decides : (r q : Rule) → Decides (rule_eq r q) (r ≡ q)
rule_eq-Decides = decides rule_eq equal_rules rule_itself

-- a test that decides equality is an equivalence
same_answers : (p q : Bool) → (p ≡ true → q ≡ true) → (q ≡ true → p ≡ true) → p ≡ q
same_answers true q f g = sym (f refl)
same_answers false true f g = g refl
same_answers false false f g = refl

module _ {A : Type 0} (test : A → A → Bool) (decides : (x y : A) → Decides (test x y) (x ≡ y)) where
  pub deciding_equiv : IsEquivalence test
  deciding_equiv = record {
    refl = λ x. (decides x x).1 refl;
    symm =
        λ x y. same_answers _ _ (λ h. (decides y x).1 (sym ((decides x y).0 h)))
        (λ h. (decides x y).1 (sym ((decides y x).0 h)));
    congr = λ x y z h. ap (λ a. test a z) ((decides x y).0 h);
  }

pub expression_eq_equiv : IsEquivalence expression_eq
expression_eq_equiv = deciding_equiv expression_eq expression_eq-Decides

pub rule_eq_equiv : IsEquivalence rule_eq
rule_eq_equiv = deciding_equiv rule_eq rule_eq-Decides
