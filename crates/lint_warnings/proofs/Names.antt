-- The names that rules call, met one by one.
use Rattle.std.proofs.Common.{◌≡◌, ℕ, ◌+◌, ◌<◌, List, [], ◌∷◌, ◌++◌, Bool, true, false, not, ◌&&◌, ◌||◌, cond, map, length, take, get_or, refl, sym, ap, ◌∙◌, ◌≤◌, ◌-◌, bytes_eq, drop, suc, add-one, drop-cons, length-drop, if◌then◌else◌, chars, codes, Bor, arith, Result, Ok, Err, IfOk, Vec, Global}
use Rattle.std.specs.Prelude.{flat_map, IsTrue, ◌↔◌}
use Rattle.std.proofs.lemmas.Slice.Eq.{bytes_eq-Decides}
use Rattle.std.proofs.lemmas.List.{drop_all, map-append, take_all, take_more}
use Rattle.std.proofs.lemmas.Bool.{false_from_ne_true}
use Rattle.std.proofs.Math.Bool.{or_assoc, or-false}
use Rattle.base_language.specs.Language.Builtins.{is_one_of}
use Rattle.base_language.specs.Language.Text.{Text}
use Rattle.base_language.specs.declared.runtime.places.Span as code
use Rattle.lint_warnings.specs.Lists.{HasNames, TextSet, texts_of}
use Rattle.base_ast.specs.Ast.{text_of}
use Rattle.front_spanned.specs.Nodes.{piece_of, rule_view, rule_views, view}
use Rattle.front_spanned.specs.Walk.{preorder, waiting}
use Rattle.front_spanned.specs.declared.node.ParserNode.{ParserNode}
use Rattle.front_spanned.proofs.Walks.{waiting_push}
use Rattle.front_spanned.specs.Spanned.{Spanned, SpannedRule, Leaf, One, Two}
use Rattle.front_spanned.specs.declared.node.ParserRule.{ParserRule}
use Rattle.lint_warnings.specs.Rules.{after_first, calls_another, is_called, is_needed, judged, knows_start, name_called, names_end, needs_no_call, uncalled_at}
use Rattle.lint_warnings.proofs.Called.{is_one_of-append}

called_more : (rs : List SpannedRule) (r : SpannedRule) (n : Text) → is_called (rs ++ r ∷ []) n ≡ (is_called rs n || calls_another r n)
called_more [] r n = or-false (calls_another r n)
called_more (q ∷ rs) r n = ap (λ b. calls_another q n || b) (called_more rs r n) ∙ sym (or_assoc (calls_another q n) (is_called rs n) (calls_another r n))

pub rule_called : (starts : List Text) (rules : List ParserRule) (i : ℕ) (x : ParserRule) (n : Text) (old new : Bool) → i < length rules → x ≡ get_or rules i x
    → new ≡ (old || calls_another (rule_view x) n) → old ≡ is_needed starts (rule_views (take i rules)) n → new ≡ is_needed starts (rule_views (take (i + 1) rules)) n
rule_called starts rules i x n old new h at e o =
    let more : take (i + 1) rules ≡ take i rules ++ x ∷ [] = take_more rules i x h ∙ ap (λ r. take i rules ++ r ∷ []) (sym at) in
    let called = ap (λ l. is_called (rule_views l) n) more
    ∙ (ap (λ l. is_called l n) (map-append rule_view (take i rules) (x ∷ []))
    ∙ called_more (rule_views (take i rules)) (rule_view x) n) in
    e ∙ (ap (λ b. b || calls_another (rule_view x) n) o
    ∙ (or_assoc (is_one_of starts n) (is_called (rule_views (take i rules)) n) (calls_another (rule_view x) n)
    ∙ ap (λ b. is_one_of starts n || b) (sym called)))

moved : (h o a b : Bool) → ((h || (o && a)) || (o && b)) ≡ (h || (o && (a || b)))
moved true o a b = refl
moved false true a b = refl
moved false false a b = refl

pub call_met : (own n : Text) (old new : Bool) (x : Spanned) (w v : List Spanned) (all : Bool) → w ≡ x ∷ v
    → new ≡ (old || (not (bytes_eq own n) && is_one_of (name_called x) n))
    → (old || (not (bytes_eq own n) && is_one_of (flat_map name_called w) n)) ≡ all → (new || (not (bytes_eq own n) && is_one_of (flat_map name_called v) n)) ≡ all
call_met own n old new x w v all h e i =
    let o : Bool = not (bytes_eq own n) in
    let rest : Bool = is_one_of (flat_map name_called v) n in
    ap (λ b. b || (o && rest)) e
    ∙ (moved old o (is_one_of (name_called x) n) rest
    ∙ (ap (λ b. old || (o && b)) (sym (is_one_of-append (name_called x) (flat_map name_called v) n))
    ∙ (ap (λ l. old || (o && is_one_of (flat_map name_called l) n)) (sym h) ∙ i)))

pub call_added : (b o h : Bool) → (b ≡ true → o ≡ false) → cond b true h ≡ (h || (not o && (b || false)))
call_added true o true f = refl
call_added true true false f = let e = f refl in cc
call_added true false false f = refl
call_added false true true f = refl
call_added false true false f = refl
call_added false false true f = refl
call_added false false false f = refl

-- a name that is another one
pub other_name : (s o n : Text) (r : Bool) → (IsTrue r ↔ (s ≡ o)) → r ≡ false → bytes_eq s n ≡ true → bytes_eq o n ≡ false
other_name s o n r h f e = false_from_ne_true (bytes_eq o n) (λ k.
    let yes : r ≡ true = h.1 ((bytes_eq-Decides s n).0 e ∙ sym ((bytes_eq-Decides o n).0 k)) in
    absurd (let z : true ≡ false = sym yes ∙ f in cc))

-- one more name
pub name_more : (names : List (Bor (List ℕ))) (i : ℕ) (d : Bor (List ℕ)) (n : Text) (old new : Bool) → i < length names
    → new ≡ (old || bytes_eq (chars (get_or names i d).now) n) → old ≡ is_one_of (texts_of (take i names)) n → new ≡ is_one_of (texts_of (take (i + 1) names)) n
name_more names i d n old new h e o =
    let x = get_or names i d in
    let more : take (i + 1) names ≡ take i names ++ x ∷ [] = take_more names i d h in
    e ∙ (ap (λ b. b || bytes_eq (chars x.now) n) o
    ∙ (ap (λ b. is_one_of (texts_of (take i names)) n || b) (sym (or-false (bytes_eq (chars x.now) n)))
    ∙ sym (ap (λ l. is_one_of (texts_of l) n) more
    ∙ (ap (λ l. is_one_of l n) (map-append (λ t. chars t.now) (take i names) (x ∷ []))
    ∙ is_one_of-append (texts_of (take i names)) (chars x.now ∷ []) n))))

-- insertion of a name
pub cond_or : (b h : Bool) → cond b true h ≡ (h || b)
cond_or true true = refl
cond_or true false = refl
cond_or false true = refl
cond_or false false = refl

-- the rules after the first
pub passed_over : (f : Text → Bool) (rules : List ParserRule) (i : ℕ) (x : ParserRule) → i < length rules → x ≡ get_or rules i x → needs_no_call (text_of x.name) ≡ true
    → after_first f (rule_views (drop i rules)) ≡ after_first f (rule_views (drop (i + 1) rules))
passed_over f rules i x h at e = rw (drop-cons rules i x h, ← at, add-one) (ap (λ b. if b then after_first f (rule_views (drop (suc i) rules)) else (if f (text_of x.name) then [] else rule_views (drop (suc i) rules))) e)

pub stopped_at : (f : Text → Bool) (rules : List ParserRule) (i : ℕ) (x : ParserRule) → i < length rules → x ≡ get_or rules i x → needs_no_call (text_of x.name) ≡ false
    → after_first f (rule_views (drop i rules)) ≡ (if f (text_of x.name) then [] else rule_views (drop (i + 1) rules))
stopped_at f rules i x h at e = rw (drop-cons rules i x h, ← at, add-one) (ap (λ b. if b then after_first f (rule_views (drop (suc i) rules)) else (if f (text_of x.name) then [] else rule_views (drop (suc i) rules))) e)

pub stops_needed : (f : Text → Bool) (rules : List ParserRule) (i : ℕ) (x : ParserRule) → i < length rules → x ≡ get_or rules i x → needs_no_call (text_of x.name) ≡ false → f (text_of x.name) ≡ true
    → after_first f (rule_views (drop i rules)) ≡ after_first f (rule_views rules) → rule_views (drop (length rules) rules) ≡ after_first f (rule_views rules)
stops_needed f rules i x h at e n inv =
    ap rule_views (drop_all (length rules) rules (omega arith))
    ∙ (sym (stopped_at f rules i x h at e ∙ ap (λ b. if b then [] else rule_views (drop (i + 1) rules)) n) ∙ inv)

pub stops_free : (f : Text → Bool) (rules : List ParserRule) (i : ℕ) (x : ParserRule) → i < length rules → x ≡ get_or rules i x → needs_no_call (text_of x.name) ≡ false → f (text_of x.name) ≡ false
    → after_first f (rule_views (drop i rules)) ≡ after_first f (rule_views rules) → rule_views (drop (i + 1) rules) ≡ after_first f (rule_views rules)
stops_free f rules i x h at e n inv = sym (stopped_at f rules i x h at e ∙ ap (λ b. if b then [] else rule_views (drop (i + 1) rules)) n) ∙ inv

pub nothing_stops : (f : Text → Bool) (rules : List ParserRule) (i : ℕ) → length rules ≤ i
    → after_first f (rule_views (drop i rules)) ≡ after_first f (rule_views rules) → rule_views (drop (length rules) rules) ≡ after_first f (rule_views rules)
nothing_stops f rules i h inv = ap rule_views (drop_all (length rules) rules (omega arith)) ∙ (sym (ap (λ l. after_first f (rule_views l)) (drop_all i rules h)) ∙ inv)

-- the rules from an index on
pub whole_rest : (rules : List ParserRule) (n : ℕ) → take (length rules - n) (drop n rules) ≡ drop n rules
whole_rest rules n = take_all (length rules - n) (drop n rules) (let e = length-drop n rules in omega (arith, e))

-- the rules that are judged
pub judged_all : {E : Type 0} (f : Text → Bool) (rules : List SpannedRule) (set : TextSet) (result : Result (Vec code.Span Global) E) → HasNames f set → knows_start f ≡ true
    → IfOk result (λ found. (g : Text → Bool) → HasNames g set → map piece_of found.items ≡ flat_map (uncalled_at g) rules)
    → IfOk result (λ found. map piece_of found.items ≡ flat_map (uncalled_at f) (judged f rules))
judged_all f rules set (Ok found) k e h = h f k ∙ sym (ap (λ b. flat_map (uncalled_at f) (if b then rules else after_first f rules)) e)
judged_all f rules set (Err x) k e h = tt

pub judged_rest : {E : Type 0} (f : Text → Bool) (rules rest : List SpannedRule) (set : TextSet) (result : Result (Vec code.Span Global) E) → HasNames f set → knows_start f ≡ false → rest ≡ after_first f rules
    → IfOk result (λ found. (g : Text → Bool) → HasNames g set → map piece_of found.items ≡ flat_map (uncalled_at g) rest)
    → IfOk result (λ found. map piece_of found.items ≡ flat_map (uncalled_at f) (judged f rules))
judged_rest f rules rest set (Ok found) k e r h =
    h f k ∙ (ap (flat_map (uncalled_at f)) r ∙ sym (ap (λ b. flat_map (uncalled_at f) (if b then rules else after_first f rules)) e))
judged_rest f rules rest set (Err x) k e r h = tt

shuffled : (a b c d : Bool) → ((a || b) || (c || d)) ≡ ((a || c) || (b || d))
shuffled true b c d = refl
shuffled false true true d = refl
shuffled false true false d = refl
shuffled false false c d = refl

-- a node that names no end
pub end_among : (ns ms : List Text) → names_end (ns ++ ms) ≡ (names_end ns || names_end ms)
end_among ns ms = rw (is_one_of-append ns ms (codes "SOI"), is_one_of-append ns ms (codes "EOI")) (shuffled (is_one_of ns (codes "SOI")) (is_one_of ms (codes "SOI")) (is_one_of ns (codes "EOI")) (is_one_of ms (codes "EOI")))

pub no_end_met : (x : Spanned) (w v : List Spanned) (all : Bool) → w ≡ x ∷ v → names_end (name_called x) ≡ false → names_end (flat_map name_called w) ≡ all → names_end (flat_map name_called v) ≡ all
no_end_met x w v all h e i = sym (ap (λ b. b || names_end (flat_map name_called v)) e) ∙ (sym (end_among (name_called x) (flat_map name_called v)) ∙ (ap (λ l. names_end (flat_map name_called l)) (sym h) ∙ i))

pub end_met : (x : Spanned) (w v : List Spanned) (all : Bool) → w ≡ x ∷ v → names_end (name_called x) ≡ true → names_end (flat_map name_called w) ≡ all → all ≡ true
end_met x w v all h e i = sym i ∙ (ap (λ l. names_end (flat_map name_called l)) h ∙ (end_among (name_called x) (flat_map name_called v) ∙ ap (λ b. b || names_end (flat_map name_called v)) e))

pub first_of : (v : Spanned) → (rest : List Spanned) × (preorder v ≡ v ∷ rest)
first_of (Leaf s e) = ([], refl)
first_of (One s f x) = (preorder x, refl)
first_of (Two s f x y) = (preorder x ++ preorder y, refl)

pub end_popped : (ss ps : List (Bor ParserNode)) (n : Bor ParserNode) (all : Bool) → ss ≡ ps ++ (n ∷ []) → names_end (name_called (view n.now)) ≡ true → names_end (flat_map name_called (waiting ss)) ≡ all → all ≡ true
end_popped ss ps n all e h i =
    let p = first_of (view n.now) in
    end_met (view n.now) (waiting ss) (p.0 ++ waiting ps) all (ap waiting e ∙ (waiting_push ps n ∙ ap (λ l. l ++ waiting ps) p.1)) h i

-- one more name at the end of a list
pub name_at_end : (names : List Text) (key : Text) (n : Text) (old new : Bool) → new ≡ (old || bytes_eq key n) → old ≡ is_one_of names n → new ≡ is_one_of (names ++ key ∷ []) n
name_at_end names key n old new e o =
    e ∙ (ap (λ b. b || bytes_eq key n) o
    ∙ (ap (λ b. is_one_of names n || b) (sym (or-false (bytes_eq key n)))
    ∙ sym (is_one_of-append names (key ∷ []) n)))
