-- Names that are reached by calls, met rule by rule.
use Rattle.std.proofs.Common.{◌≡◌, ℕ, suc, ◌+◌, ◌<◌, List, [], ◌∷◌, ◌++◌, Bool, ◌||◌, map, length, take, get_or, sym, ap, ◌∙◌, subst, add-one, drop, drop-cons, append-nil, bytes_eq, chars, Bor, if◌then◌else◌, true, false, Result, Ok, Err, IfOk, Vec, Global}
use Rattle.std.specs.Prelude.{flat_map}
use Rattle.std.specs.Prelude.{None, Some, slice_get}
use Rattle.base_language.specs.declared.runtime.places.Span as code
use Rattle.std.proofs.lemmas.Grind.{flat_map-append}
use Rattle.std.proofs.lemmas.List.{map-append, take_more}
use Rattle.std.proofs.Math.Bool.{or_assoc, or-false}
use Rattle.base_language.specs.Language.Builtins.{is_one_of}
use Rattle.base_language.specs.Language.Text.{Text}
use Rattle.front_spanned.specs.Nodes.{piece_of, rule_view, rule_views}
use Rattle.front_spanned.specs.Spanned.{SpannedRule}
use Rattle.front_spanned.specs.declared.node.ParserRule.{ParserRule}
use Rattle.lint_warnings.specs.Lists.{HasNames, TextSet, texts_of}
use Rattle.base_ast.specs.Ast.{text_of}
use Rattle.lint_warnings.specs.Rules.{needs_no_call}
use Rattle.lint_warnings.proofs.Called.{is_one_of-append}
use Rattle.lint_warnings.specs.Tokens.{blanks_in_tokens, class_at, defines_blanks, is_class_by, is_class_rule, loose_in_rule}
use Rattle.lint_warnings.specs.Skipping.{calls_skipping, is_called_skipping, is_reached, is_root_or_called, roots}

skipping_more : (f : Text → Bool) (rs : List SpannedRule) (r : SpannedRule) (n : Text) → is_called_skipping f (rs ++ r ∷ []) n ≡ (is_called_skipping f rs n || calls_skipping f r n)
skipping_more f [] r n = or-false (calls_skipping f r n)
skipping_more f (q ∷ rs) r n = ap (λ b. calls_skipping f q n || b) (skipping_more f rs r n) ∙ sym (or_assoc (calls_skipping f q n) (is_called_skipping f rs n) (calls_skipping f r n))

-- one more rule
pub skipping_step : (f : Text → Bool) (roots : List Text) (rules : List ParserRule) (i : ℕ) (x : ParserRule) (n : Text) (old new : Bool) → i < length rules → x ≡ get_or rules i x
    → new ≡ (old || calls_skipping f (rule_view x) n) → old ≡ is_root_or_called f roots (rule_views (take i rules)) n → new ≡ is_root_or_called f roots (rule_views (take (i + 1) rules)) n
skipping_step f roots rules i x n old new h at e o =
    let more : take (i + 1) rules ≡ take i rules ++ x ∷ [] = take_more rules i x h ∙ ap (λ r. take i rules ++ r ∷ []) (sym at) in
    let called = ap (λ l. is_called_skipping f (rule_views l) n) more
    ∙ (ap (λ l. is_called_skipping f l n) (map-append rule_view (take i rules) (x ∷ []))
    ∙ skipping_more f (rule_views (take i rules)) (rule_view x) n) in
    e ∙ (ap (λ b. b || calls_skipping f (rule_view x) n) o
    ∙ (or_assoc (is_one_of roots n) (is_called_skipping f (rule_views (take i rules)) n) (calls_skipping f (rule_view x) n)
    ∙ ap (λ b. is_one_of roots n || b) (sym called)))

-- no call
pub reached_none : (roots : List Text) (rules : List SpannedRule) (set : TextSet) → HasNames (is_one_of roots) set → HasNames (is_reached 0 roots rules) set
unfolding is_reached
reached_none roots rules set h = h

-- one more call
pub reached_more : (k : ℕ) (roots : List Text) (rules : List SpannedRule) (set : TextSet) → HasNames (is_root_or_called (is_reached k roots rules) roots rules) set → HasNames (is_reached (k + 1) roots rules) set
unfolding is_reached
reached_more k roots rules set h = subst (λ j. HasNames (is_reached j roots rules) set) (sym (add-one k)) h

-- one more rule that may be a class
pub class_step : (f : Text → Bool) (rules : List ParserRule) (i : ℕ) (x : ParserRule) (n : Text) (old new : Bool) → i < length rules → x ≡ get_or rules i x
    → new ≡ (old || is_one_of (class_at f (rule_view x)) n) → old ≡ is_class_by f (rule_views (take i rules)) n → new ≡ is_class_by f (rule_views (take (i + 1) rules)) n
class_step f rules i x n old new h at e o =
    let more : take (i + 1) rules ≡ take i rules ++ x ∷ [] = take_more rules i x h ∙ ap (λ r. take i rules ++ r ∷ []) (sym at) in
    let before = flat_map (class_at f) (rule_views (take i rules)) in
    let names : flat_map (class_at f) (rule_views (take (i + 1) rules)) ≡ before ++ class_at f (rule_view x) =
    ap (λ l. flat_map (class_at f) (rule_views l)) more
    ∙ (ap (flat_map (class_at f)) (map-append rule_view (take i rules) (x ∷ []))
    ∙ (flat_map-append (class_at f) (rule_views (take i rules)) (rule_view x ∷ []) ∙ ap (λ l. before ++ l) (append-nil (class_at f (rule_view x)))))
    in
    e ∙ (ap (λ b. b || is_one_of (class_at f (rule_view x)) n) o
    ∙ (sym (is_one_of-append before (class_at f (rule_view x)) n) ∙ ap (λ l. is_one_of l n) (sym names)))

-- no chain of calls, and one more call
pub class_none : (rules : List SpannedRule) (set : TextSet) → HasNames (λ n. false) set → HasNames (is_class_rule 0 rules) set
unfolding is_class_rule
class_none rules set h = h

pub class_more : (k : ℕ) (rules : List SpannedRule) (set : TextSet) → HasNames (is_class_by (is_class_rule k rules) rules) set → HasNames (is_class_rule (k + 1) rules) set
unfolding is_class_rule
class_more k rules set h = subst (λ j. HasNames (is_class_rule j rules) set) (sym (add-one k)) h

-- a name where a test holds, and none
pub name_if : (had : Bool) (key own n : Text) (b new : Bool) → key ≡ own → b ≡ true → new ≡ (had || bytes_eq key n) → new ≡ (had || is_one_of (if b then own ∷ [] else []) n)
name_if had key own n b new e t a =
    a ∙ (ap (λ k. had || bytes_eq k n) e
    ∙ (ap (λ c. had || c) (sym (or-false (bytes_eq own n))) ∙ ap (λ c. had || is_one_of (if c then own ∷ [] else []) n) (sym t)))

pub name_unless : (had : Bool) (own n : Text) (b : Bool) → b ≡ false → had ≡ (had || is_one_of (if b then own ∷ [] else []) n)
name_unless had own n b t = sym (or-false had) ∙ ap (λ c. had || is_one_of (if c then own ∷ [] else []) n) (sym t)

-- the first of some spans
pub first_pushed : (old new spans : List code.Span) (x : code.Span) → new ≡ old ++ x ∷ [] → Some x ≡ slice_get spans 0 → map piece_of new ≡ map piece_of old ++ take 1 (map piece_of spans)
first_pushed old new [] x e h = cc
first_pushed old new (s ∷ ss) x e h =
    let same : x ≡ s = cc in
    ap (map piece_of) e ∙ (map-append piece_of old (x ∷ []) ∙ ap (λ y. map piece_of old ++ piece_of y ∷ []) same)

pub no_first : (old spans : List code.Span) → None ≡ slice_get spans 0 → map piece_of old ≡ map piece_of old ++ take 1 (map piece_of spans)
no_first old [] h = sym (append-nil (map piece_of old))
no_first old (s ∷ ss) h = cc

-- a name was added where a test holds
pub name_pushed : (names : List (Bor (List ℕ))) (key : Bor (List ℕ)) (n : Text) (b : Bool) → chars key.now ≡ n → b ≡ true → texts_of (names ++ key ∷ []) ≡ texts_of names ++ (if b then n ∷ [] else [])
name_pushed names key n b e h =
    map-append (λ t. chars t.now) names (key ∷ [])
    ∙ (ap (λ t. texts_of names ++ t ∷ []) e ∙ ap (λ c. texts_of names ++ (if c then n ∷ [] else [])) (sym h))

-- a rule that is none for blanks, or one
pub blank_passed : (rules : List ParserRule) (i : ℕ) (x : ParserRule) → i < length rules → x ≡ get_or rules i x → needs_no_call (text_of x.name) ≡ false
    → defines_blanks (rule_views (drop i rules)) ≡ defines_blanks (rule_views (drop (i + 1) rules))
blank_passed rules i x h at e = rw (drop-cons rules i x h, ← at, add-one) (ap (λ b. b || defines_blanks (rule_views (drop (suc i) rules))) e)

pub blank_found : (rules : List ParserRule) (i : ℕ) (x : ParserRule) → i < length rules → x ≡ get_or rules i x → needs_no_call (text_of x.name) ≡ true
    → defines_blanks (rule_views (drop i rules)) ≡ true
blank_found rules i x h at e = rw (drop-cons rules i x h, ← at) (ap (λ b. b || defines_blanks (rule_views (drop (suc i) rules))) e)

-- the spans in all rules, where blanks are defined
pub repetitions_found : {E : Type 0} (rules : List SpannedRule) (called classes : TextSet) (result : Result (Vec code.Span Global) E) → defines_blanks rules ≡ true
    → HasNames (is_reached 32 (roots rules) rules) called → HasNames (is_class_rule 8 rules) classes
    → IfOk result (λ found. (f g : Text → Bool) → HasNames f called → HasNames g classes → map piece_of found.items ≡ flat_map (loose_in_rule f g) rules)
    → IfOk result (λ found. map piece_of found.items ≡ blanks_in_tokens rules)
repetitions_found rules called classes (Ok found) d k l h =
    let f = is_reached 32 (roots rules) rules in
    let g = is_class_rule 8 rules in
    h f g k l ∙ sym (ap (λ b. if b then flat_map (loose_in_rule f g) rules else []) d)
repetitions_found rules called classes (Err x) d k l h = tt
