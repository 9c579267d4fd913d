-- Keys of the rules so far, and the spans found on the way.
use Rattle.std.proofs.Common.{◌≡◌, ◌∙◌, ℕ, ◌+◌, ◌<◌, ◌≤◌, List, [], ◌∷◌, ◌++◌, Bool, true, false, ◌&&◌, ◌||◌, if◌then◌else◌, cond, Vec, Global, refl, sym, ap, ap₂, add-one, append_assoc, append-nil, drop, drop-cons, get_or, length, map, nat_eq, subst, suc, take}
use Rattle.std.specs.Prelude.{not}
use Rattle.std.specs.HashSet as bag
use Rattle.std.proofs.lemmas.Bool.{and_parts, eqb-false}
use Rattle.std.proofs.lemmas.List.{drop_all, map-append, take_more}
use Rattle.std.proofs.lemmas.List.Folds.{list_any-append}
use lib.Pointwise.{pointwise}
use Rattle.base_language.specs.Language.Expression.{RuleType, Normal, Silent, Atomic, CompoundAtomic, NonAtomic}
use Rattle.base_language.specs.Language.Meaning.{Matches}
use Rattle.base_language.specs.Rewritings.Equality.{expression_eq, expression_eq-Decides, rule_type_eq, rule_type_eq-Decides}
use Rattle.base_language.specs.declared.runtime.places.Span as code
use Rattle.lint_patterns.specs.Bodies.{bodies_after, has_same_body, is_same_body, span_if_same}
use Rattle.lint_patterns.specs.BodyKeys.{KnowsBodies, rule_key, type_key}
use Rattle.lint_patterns.specs.Duplicates.{is_compared}
use Rattle.lint_patterns.specs.Keys.{key}
use Rattle.lint_patterns.specs.DuplicateLaws.{RunAlike}
use Rattle.lint_patterns.specs.DuplicateLists.{KeySet, same_key}
use Rattle.lint_patterns.proofs.Known as known
use Rattle.lint_patterns.proofs.Unique.{first, keys_decide, same_answer, unique}
use Rattle.front_spanned.specs.Erasure.{without_spans}
use Rattle.front_spanned.specs.Nodes.{piece_of, rule_view, rule_views}
use Rattle.front_spanned.specs.Spanned.{Span, SpannedRule}
use Rattle.front_spanned.specs.declared.node.ParserRule.{ParserRule}

-- types with one number are the same
type_unique : (t u : RuleType) → type_key t ≡ type_key u → t ≡ u
type_unique Normal Normal h = refl
type_unique Silent Silent h = refl
type_unique Atomic Atomic h = refl
type_unique CompoundAtomic CompoundAtomic h = refl
type_unique NonAtomic NonAtomic h = refl
type_unique t u h = absurd (eqb-false (type_key t) (type_key u) refl h)

-- a rule's key is its body's with its type
pub marked : (r : SpannedRule) (k b : List ℕ) → k ≡ b ++ type_key r.type_of ∷ [] → b ≡ key (without_spans r.body) → k ≡ rule_key r
marked r k b e h = e ∙ ap (λ l. l ++ type_key r.type_of ∷ []) h

same_parts : (q r : SpannedRule) → rule_key q ≡ rule_key r → is_same_body q r ≡ true
same_parts q r h =
    let k = unique (without_spans q.body) (without_spans r.body) (type_key q.type_of ∷ []) (type_key r.type_of ∷ []) h in
    let t : rule_type_eq q.type_of r.type_of ≡ true = (rule_type_eq-Decides q.type_of r.type_of).1 (type_unique q.type_of r.type_of (ap first k.1)) in
    let e : expression_eq (without_spans q.body) (without_spans r.body) ≡ true = (expression_eq-Decides (without_spans q.body) (without_spans r.body)).1 k.0 in
    ap₂ (λ b c. b && c) t e

same_type : (q r : SpannedRule) → is_same_body q r ≡ true → q.type_of ≡ r.type_of
same_type q r h = (rule_type_eq-Decides q.type_of r.type_of).0 (and_parts (rule_type_eq q.type_of r.type_of) (expression_eq (without_spans q.body) (without_spans r.body)) h).0

same_expression : (q r : SpannedRule) → is_same_body q r ≡ true → without_spans q.body ≡ without_spans r.body
same_expression q r h = (expression_eq-Decides (without_spans q.body) (without_spans r.body)).0 (and_parts (rule_type_eq q.type_of r.type_of) (expression_eq (without_spans q.body) (without_spans r.body)) h).1

-- comparing keys is comparing types and bodies
same_rule_keys : (q r : SpannedRule) → pointwise nat_eq (rule_key q) (rule_key r) ≡ is_same_body q r
same_rule_keys q r =
    same_answer (pointwise nat_eq (rule_key q) (rule_key r)) (is_same_body q r)
    (λ h. same_parts q r ((keys_decide (rule_key q) (rule_key r)).0 h))
    (λ h. (keys_decide (rule_key q) (rule_key r)).1 (ap₂ (λ e t. key e ++ type_key t ∷ []) (same_expression q r h) (same_type q r h)))

-- bodies that are the same have the same outcomes
pub run_alike : (q r : SpannedRule) → is_same_body q r ≡ true → RunAlike q r
run_alike q r h =
    let e = same_expression q r h in
    (same_type q r h, λ g classes m s o. (λ d. subst (λ x. Matches g classes x m s o) e d, λ d. subst (λ x. Matches g classes x m s o) (sym e) d))

among_more : (rs : List SpannedRule) (x r : SpannedRule) → has_same_body (rs ++ x ∷ []) r ≡ (has_same_body rs r || is_same_body x r)
among_more rs x r =
    list_any-append (λ q. is_same_body q r) rs (x ∷ [])
    ∙ ap (λ b. has_same_body rs r || b) (known.or_none (is_same_body x r))

-- a rule that is not compared is the same as none of those that are
no_match : (q r : SpannedRule) → is_compared (without_spans q.body) ≡ false → is_compared (without_spans r.body) ≡ true → is_same_body q r ≡ false
no_match q r h k = ap (λ b. rule_type_eq q.type_of r.type_of && b) (known.no_match (without_spans q.body) (without_spans r.body) h k) ∙ known.and_false (rule_type_eq q.type_of r.type_of)

pub known_still : (rs : List SpannedRule) (x : SpannedRule) (set : KeySet) → is_compared (without_spans x.body) ≡ false → KnowsBodies rs set → KnowsBodies (rs ++ x ∷ []) set
known_still rs x set h knows = λ r k i j.
    knows r k i j ∙ sym (among_more rs x r ∙ (ap (λ b. has_same_body rs r || b) (no_match x r h j) ∙ known.or_none (has_same_body rs r)))

pub known_more : (rs : List SpannedRule) (x : SpannedRule) (old new : KeySet) (k : Vec ℕ Global) → k.items ≡ rule_key x → bag.Updates same_key old new k true → KnowsBodies rs old → KnowsBodies (rs ++ x ∷ []) new
known_more rs x old new k h updates knows = λ r q i j.
    let test : same_key k q ≡ is_same_body x r = ap₂ (λ m n. pointwise nat_eq m n) h i ∙ same_rule_keys x r in
    updates.0 q ∙ (ap₂ (λ b c. cond b true c) test (knows r q i j) ∙ (known.cond_or (is_same_body x r) (has_same_body rs r) ∙ sym (among_more rs x r)))

-- whether a rule's body is there, by the answer of an insertion
pub there_if_old : (rs : List SpannedRule) (r : SpannedRule) (set : KeySet) (k : Vec ℕ Global) (is_new : Bool) → KnowsBodies rs set → k.items ≡ rule_key r → is_compared (without_spans r.body) ≡ true
    → is_new ≡ not (bag.contains same_key set k) → is_new ≡ false → has_same_body rs r ≡ true
there_if_old rs r set k is_new knows h j added old = sym (knows r k h j) ∙ known.not_false (bag.contains same_key set k) (sym added ∙ old)

pub missing_if_new : (rs : List SpannedRule) (r : SpannedRule) (set : KeySet) (k : Vec ℕ Global) (is_new : Bool) → KnowsBodies rs set → k.items ≡ rule_key r → is_compared (without_spans r.body) ≡ true
    → is_new ≡ not (bag.contains same_key set k) → is_new ≡ true → has_same_body rs r ≡ false
missing_if_new rs r set k is_new knows h j added new = sym (knows r k h j) ∙ known.not_true (bag.contains same_key set k) (sym added ∙ new)

-- a rule that is not compared, and one that is
none_if : (earlier : List SpannedRule) (r : SpannedRule) → is_compared (without_spans r.body) ≡ false → span_if_same earlier r ≡ []
none_if earlier r h = ap (λ b. if b && has_same_body earlier r then r.span ∷ [] else []) h

some_if : (earlier : List SpannedRule) (r : SpannedRule) (b : Bool) → is_compared (without_spans r.body) ≡ true → has_same_body earlier r ≡ b → span_if_same earlier r ≡ (if b then r.span ∷ [] else [])
some_if earlier r b h k =
    ap (λ a. if a && has_same_body earlier r then r.span ∷ [] else []) h
    ∙ ap (λ a. if a then r.span ∷ [] else []) k

-- no span more
pub same_spans : (found : List Span) (earlier : List SpannedRule) (r : SpannedRule) → is_compared (without_spans r.body) ≡ false → found ≡ found ++ span_if_same earlier r
same_spans found earlier r h = sym (append-nil found) ∙ ap (λ l. found ++ l) (sym (none_if earlier r h))

pub spans_if_missing : (found : List Span) (earlier : List SpannedRule) (r : SpannedRule) → is_compared (without_spans r.body) ≡ true → has_same_body earlier r ≡ false → found ≡ found ++ span_if_same earlier r
spans_if_missing found earlier r h k = sym (append-nil found) ∙ ap (λ l. found ++ l) (sym (some_if earlier r false h k))

-- and one more
pub spans_if_there : (found after : List code.Span) (earlier : List SpannedRule) (r : ParserRule) → after ≡ found ++ r.span ∷ [] → is_compared (without_spans (rule_view r).body) ≡ true
    → has_same_body earlier (rule_view r) ≡ true → map piece_of after ≡ map piece_of found ++ span_if_same earlier (rule_view r)
spans_if_there found after earlier r e h k =
    ap (map piece_of) e ∙ (map-append piece_of found (r.span ∷ []) ∙ ap (λ l. map piece_of found ++ l) (sym (some_if earlier (rule_view r) true h k)))

-- the rules before and after one that is looked at
pub rules_before : (rules : List ParserRule) (i : ℕ) (r : ParserRule) → i < length rules → r ≡ get_or rules i r → rule_views (take i rules) ++ rule_view r ∷ [] ≡ rule_views (take (i + 1) rules)
rules_before rules i r h at =
    let more : take (i + 1) rules ≡ take i rules ++ r ∷ [] = take_more rules i r h ∙ ap (λ x. take i rules ++ x ∷ []) (sym at) in
    sym (ap rule_views more ∙ map-append rule_view (take i rules) (r ∷ []))

rules_after : (rules : List ParserRule) (i : ℕ) (r : ParserRule) → i < length rules → r ≡ get_or rules i r → rule_views (drop i rules) ≡ rule_view r ∷ rule_views (drop (i + 1) rules)
rules_after rules i r h at =
    let next : drop i rules ≡ r ∷ drop (i + 1) rules = rw add-one (drop-cons rules i r h ∙ ap (λ x. x ∷ drop (suc i) rules) (sym at)) in
    ap rule_views next

-- the next rule was looked at
pub spans_more : (all found after : List Span) (rules : List ParserRule) (i : ℕ) (r : ParserRule) → i < length rules → r ≡ get_or rules i r → after ≡ found ++ span_if_same (rule_views (take i rules)) (rule_view r)
    → all ≡ found ++ bodies_after (rule_views (take i rules)) (rule_views (drop i rules)) → all ≡ after ++ bodies_after (rule_views (take (i + 1) rules)) (rule_views (drop (i + 1) rules))
spans_more all found after rules i r h at e before =
    let earlier = rule_views (take i rules) in
    let rest = rule_views (drop (i + 1) rules) in
    before ∙ (ap (λ l. found ++ bodies_after earlier l) (rules_after rules i r h at)
    ∙ (sym (append_assoc found (span_if_same earlier (rule_view r)) (bodies_after (earlier ++ rule_view r ∷ []) rest))
    ∙ ap₂ (λ f m. f ++ bodies_after m rest) (sym e) (rules_before rules i r h at)))

-- no rule is left
pub all_spans : (all found : List Span) (earlier : List SpannedRule) (rules : List ParserRule) (i : ℕ) → length rules ≤ i → all ≡ found ++ bodies_after earlier (rule_views (drop i rules)) → found ≡ all
all_spans all found earlier rules i h e = sym (e ∙ (ap (λ l. found ++ bodies_after earlier (rule_views l)) (drop_all i rules h) ∙ append-nil found))
