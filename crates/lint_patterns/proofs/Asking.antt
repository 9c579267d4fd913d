-- Rules that ask for the end of a text, met one by one.
use Rattle.std.proofs.Common.{◌≡◌, ◌∙◌, ℕ, zero, suc, ◌+◌, ◌-◌, ◌<◌, List, [], ◌∷◌, ◌++◌, Bool, true, false, ◌&&◌, ◌||◌, ◌==◌, Bor, Err, Global, IfOk, Ok, Result, Vec, add-one, ap, append-nil, arith, drop, drop-cons, get_or, if◌then◌else◌, length, map, subst, sym, take}
use Rattle.std.specs.Prelude.{flat_map, nat_lt}
use Rattle.std.specs.List.{list_any}
use Rattle.std.proofs.lemmas.Grind.{flat_map-append}
use Rattle.std.proofs.lemmas.List.{length-map, map-append, take_more}
use Rattle.base_language.specs.Language.Builtins.{is_one_of}
use Rattle.base_language.specs.Language.Text.{Text}
use Rattle.base_language.specs.declared.runtime.places.Span as code
use Rattle.front_spanned.specs.Nodes.{piece_of, rule_view, rule_views, view}
use Rattle.front_spanned.specs.Spanned.{Spanned, SpannedRule}
use Rattle.front_spanned.specs.Walk.{waiting}
use Rattle.front_spanned.specs.declared.node.ParserNode.{ParserNode}
use Rattle.front_spanned.specs.declared.node.ParserRule.{ParserRule}
use Rattle.front_spanned.proofs.Walks.{waiting_push}
use Rattle.lint_warnings.proofs.Called.{is_one_of-append}
use Rattle.lint_warnings.proofs.Names.{first_of}
use Rattle.lint_warnings.specs.Lists.{HasNames, TextSet, has_name}
use Rattle.lint_warnings.specs.Rules.{is_needed}
use Rattle.lint_patterns.specs.Ends.{asking_at, entry_at, has_one_entry, is_asking, is_asking_by, open_among, open_at, open_starts, wants_fronts}

-- a node that fails a test, and one on a stack that passes it
pub none_met : (p : Spanned → Bool) (x : Spanned) (w v : List Spanned) (all : Bool) → w ≡ x ∷ v → p x ≡ false → list_any p w ≡ all → list_any p v ≡ all
none_met p x w v all h e i = sym (ap (λ b. b || list_any p v) e) ∙ (ap (list_any p) (sym h) ∙ i)

some_met : (p : Spanned → Bool) (x : Spanned) (w v : List Spanned) (all : Bool) → w ≡ x ∷ v → p x ≡ true → list_any p w ≡ all → all ≡ true
some_met p x w v all h e i = sym i ∙ (ap (list_any p) h ∙ ap (λ b. b || list_any p v) e)

pub some_popped : (p : Spanned → Bool) (ss ps : List (Bor ParserNode)) (n : Bor ParserNode) (all : Bool) → ss ≡ ps ++ (n ∷ []) → p (view n.now) ≡ true → list_any p (waiting ss) ≡ all → all ≡ true
some_popped p ss ps n all e t i =
    let q = first_of (view n.now) in
    some_met p (view n.now) (waiting ss) (q.0 ++ waiting ps) all (ap waiting e ∙ (waiting_push ps n ∙ ap (λ l. l ++ waiting ps) q.1)) t i

-- a rule that fails a test, and one that passes it
pub rule_fails : (p : SpannedRule → Bool) (rules : List ParserRule) (i : ℕ) (x : ParserRule) → i < length rules → x ≡ get_or rules i x → p (rule_view x) ≡ false
    → list_any p (rule_views (drop i rules)) ≡ list_any p (rule_views (drop (i + 1) rules))
rule_fails p rules i x h at e = rw (drop-cons rules i x h, ← at, add-one) (ap (λ b. b || list_any p (rule_views (drop (suc i) rules))) e)

pub rule_passes : (p : SpannedRule → Bool) (rules : List ParserRule) (i : ℕ) (x : ParserRule) → i < length rules → x ≡ get_or rules i x → p (rule_view x) ≡ true
    → list_any p (rule_views (drop i rules)) ≡ true
rule_passes p rules i x h at e = rw (drop-cons rules i x h, ← at) (ap (λ b. b || list_any p (rule_views (drop (suc i) rules))) e)

-- one more rule that may ask
pub asking_step : (f : Text → Bool) (rules : List ParserRule) (i : ℕ) (x : ParserRule) (n : Text) (old new : Bool) → i < length rules → x ≡ get_or rules i x
    → new ≡ (old || is_one_of (asking_at f (rule_view x)) n) → old ≡ is_asking_by f (rule_views (take i rules)) n → new ≡ is_asking_by f (rule_views (take (i + 1) rules)) n
asking_step f rules i x n old new h at e o =
    let more : take (i + 1) rules ≡ take i rules ++ x ∷ [] = take_more rules i x h ∙ ap (λ r. take i rules ++ r ∷ []) (sym at) in
    let before = flat_map (asking_at f) (rule_views (take i rules)) in
    let names : flat_map (asking_at f) (rule_views (take (i + 1) rules)) ≡ before ++ asking_at f (rule_view x) =
    ap (λ l. flat_map (asking_at f) (rule_views l)) more
    ∙ (ap (flat_map (asking_at f)) (map-append rule_view (take i rules) (x ∷ []))
    ∙ (flat_map-append (asking_at f) (rule_views (take i rules)) (rule_view x ∷ []) ∙ ap (λ l. before ++ l) (append-nil (asking_at f (rule_view x)))))
    in
    e ∙ (ap (λ b. b || is_one_of (asking_at f (rule_view x)) n) o
    ∙ (sym (is_one_of-append before (asking_at f (rule_view x)) n) ∙ ap (λ l. is_one_of l n) (sym names)))

-- no chain of calls, and one more call
pub asking_none : (rules : List SpannedRule) (set : TextSet) → HasNames (λ n. false) set → HasNames (is_asking 0 rules) set
unfolding is_asking
asking_none rules set h = h

pub asking_more : (k : ℕ) (rules : List SpannedRule) (set : TextSet) → HasNames (is_asking_by (is_asking k rules) rules) set → HasNames (is_asking (k + 1) rules) set
unfolding is_asking
asking_more k rules set h = subst (λ j. HasNames (is_asking j rules) set) (sym (add-one k)) h

-- where one more round finds the same names, all further ones do
asking_on : (j k : ℕ) (rules : List SpannedRule) (set : TextSet) → ((f : Text → Bool) → HasNames f set → HasNames (is_asking_by f rules) set)
    → HasNames (is_asking k rules) set → HasNames (is_asking (k + j) rules) set
asking_on zero k rules set step h = let same : k ≡ k + 0 = omega arith in subst (λ i. HasNames (is_asking i rules) set) same h
asking_on (suc j) k rules set step h =
    let same : (k + 1) + j ≡ k + suc j = omega arith in
    subst (λ i. HasNames (is_asking i rules) set) same (asking_on j (k + 1) rules set step (asking_more k rules set (step (is_asking k rules) h)))

pub asking_same : (k most : ℕ) (rules : List SpannedRule) (set found : TextSet) → k < most → HasNames (is_asking k rules) set
    → ((f : Text → Bool) → HasNames f set → HasNames (is_asking_by f rules) found) → ((name : List ℕ) → has_name found name ≡ has_name set name)
    → HasNames (is_asking most rules) set
asking_same k most rules set found below h more same =
    let all : k + (most - k) ≡ most = omega arith in
    let step : (f : Text → Bool) → HasNames f set → HasNames (is_asking_by f rules) set = λ f known name u. sym (same name) ∙ more f known name u in
    subst (λ i. HasNames (is_asking i rules) set) all (asking_on (most - k) k rules set step h)

-- the number of entries
pub one_entry : (f : Text → Bool) (rules : List SpannedRule) (spans : List code.Span) (many : Bool) → map piece_of spans ≡ flat_map (entry_at f) rules
    → many ≡ nat_lt 1 (length rules) → (many && length spans == 1) ≡ has_one_entry f rules
one_entry f rules spans many e m =
    let same : length spans ≡ length (flat_map (entry_at f) rules) = simp length-map at (ap length e) in
    ap (λ b. b && length spans == 1) m ∙ ap (λ n. nat_lt 1 (length rules) && n == 1) same

-- the spans in all rules
pub starts_found : {E : Type 0} (starts : List Text) (rules : List SpannedRule) (called asking : TextSet) (only : Bool) (result : Result (Vec code.Span Global) E) → wants_fronts starts rules ≡ false
    → HasNames (is_needed [] rules) called → HasNames (is_asking 32 rules) asking → only ≡ has_one_entry (is_needed [] rules) rules
    → IfOk result (λ found. (f g : Text → Bool) → HasNames f called → HasNames g asking → map piece_of found.items ≡ flat_map (open_at f g only) rules)
    → IfOk result (λ found. map piece_of found.items ≡ open_starts starts rules)
starts_found starts rules called asking only (Ok found) w k l o h =
    let f = is_needed [] rules in
    let g = is_asking 32 rules in
    h f g k l ∙ (ap (λ b. flat_map (open_at f g b) rules) o ∙ sym (ap (λ b. if b then [] else open_among f g rules) w))
starts_found starts rules called asking only (Err x) w k l o h = tt
