-- The names that are gathered from rules.
use Rattle.std.proofs.Common.{◌≡◌, ℕ, ◌+◌, ◌<◌, ◌≤◌, List, [], ◌∷◌, ◌++◌, Bor, ap, append_assoc, append-nil, chars, get_or, length, map, refl, sym, subst, take, ◌∙◌}
use Rattle.std.proofs.lemmas.Grind.{flat_map-append}
use Rattle.std.proofs.lemmas.List.{map-append, take_more, take_all}
use Rattle.std.proofs.lemmas.List.Elements.{All-append, All-cons, All-nil, All-contains, All-weaker, Contains-append_left, Contains-append_right, Contains-push}
use Rattle.std.specs.List.{All, Contains}
use Rattle.std.specs.Prelude.{flat_map, string_bytes}
use Rattle.std.specs.declared.alloc.Global.{Global}
use Rattle.std.specs.declared.string.String.{String}
use Rattle.base_ast.specs.Optimized.{optimized_expression_of, optimized_rule_of, optimized_rules_of}
use Rattle.base_ast.specs.declared.optimized.OptimizedExpr.{OptimizedExpr}
use Rattle.base_ast.specs.declared.optimized.OptimizedExpr.TheVariants as code
use Rattle.base_ast.specs.declared.optimized.OptimizedRule.{OptimizedRule}
use Rattle.base_language.specs.Language.Expression.{Expression, Ident, Part, Rule, whole, of_pos_pred, of_neg_pred, of_seq_left, of_seq_right, of_choice_left, of_choice_right, of_opt, of_rep, of_rep_once, of_rep_exact, of_rep_min, of_rep_max, of_rep_min_max, of_push, of_tag, of_restore}
use Rattle.base_language.specs.Language.Text.{Text}
use Rattle.base_language.specs.Language.WellFormed.{InSomeRule}
use Rattle.matcher_program.proofs.Forming.{calls_more}
use Rattle.matcher_program.specs.Forming.{calls_of, calls_waiting, own_call, said}

abbrev pub texts : List (Bor (List ℕ)) → List Text
texts names = map (λ name. chars name.now) names

-- one part more was looked at
pub part_gathered : (before after total : List Text) (ss ps ns : List (Bor OptimizedExpr)) (e : Bor OptimizedExpr) → after ≡ before ++ own_call (said e) → ss ≡ ps ++ e ∷ []
    → own_call (said e) ++ calls_waiting ns ≡ calls_of (said e) ++ calls_waiting ps → before ++ calls_waiting ss ≡ total → after ++ calls_waiting ns ≡ total
part_gathered before after total ss ps ns e h i j k =
    ap (λ ts. ts ++ calls_waiting ns) h
    ∙ (append_assoc before (own_call (said e)) (calls_waiting ns)
    ∙ (ap (λ ts. before ++ ts) (j ∙ sym (calls_more ps ss e i))
    ∙ k))

pub one_text : (before after : List (Bor (List ℕ))) (n : Bor (List ℕ)) (s : String Global) (e : OptimizedExpr) → after ≡ before ++ n ∷ [] → e ≡ code.Ident s → n.now ≡ string_bytes s → texts after ≡ texts before ++ own_call (optimized_expression_of e)
one_text before after n s e h i j =
    ap texts h ∙ (map-append (λ (name : Bor (List ℕ)). chars name.now) before (n ∷ []) ∙ rw (i, j) refl)

own_none : (e : OptimizedExpr) → ((x : String Global) → e ≡ code.Ident x → ⊥) → own_call (optimized_expression_of e) ≡ []
own_none (code.Ident s) h = absurd (h s refl)
own_none _ h = refl

pub no_text : (before after : List (Bor (List ℕ))) (e : OptimizedExpr) → after ≡ before → ((x : String Global) → e ≡ code.Ident x → ⊥) → texts after ≡ texts before ++ own_call (optimized_expression_of e)
no_text before after e h i = ap texts h ∙ (sym (append-nil (texts before)) ∙ ap (λ ts. texts before ++ ts) (sym (own_none e i)))

-- the names of one rule more
abbrev pub calls_in : OptimizedRule → List Text
calls_in r = calls_of (optimized_expression_of r.expr)

pub rule_gathered : (rules : List OptimizedRule) (i : ℕ) (x : OptimizedRule) (old new : List (Bor (List ℕ))) → i < length rules → x ≡ get_or rules i x
    → texts new ≡ texts old ++ calls_in x → texts old ≡ flat_map calls_in (take i rules) → texts new ≡ flat_map calls_in (take (i + 1) rules)
rule_gathered rules i x old new h at e o =
    let more : take (i + 1) rules ≡ take i rules ++ x ∷ [] = take_more rules i x h ∙ ap (λ r. take i rules ++ r ∷ []) (sym at) in
    e ∙ (ap (λ l. l ++ calls_in x) o
    ∙ sym (ap (λ rs. flat_map calls_in rs) more
    ∙ (flat_map-append calls_in (take i rules) (x ∷ [])
    ∙ ap (λ l. flat_map calls_in (take i rules) ++ l) (append-nil (calls_in x)))))

-- what is so of the names that were looked at, and of one more
pub names_more : (P Q : Text → Type 0) (names : List (Bor (List ℕ))) (i : ℕ) (d : Bor (List ℕ)) → i < length names → ((t : Text) → P t → Q t) → Q (chars (get_or names i d).now)
    → All P (texts (take i names)) → All Q (texts (take (i + 1) names))
names_more P Q names i d h f q a =
    let x = get_or names i d in
    let same : texts (take (i + 1) names) ≡ texts (take i names) ++ chars x.now ∷ [] = ap texts (take_more names i d h) ∙ map-append (λ (name : Bor (List ℕ)). chars name.now) (take i names) (x ∷ []) in
    subst (λ ts. All Q ts) (sym same) (All-append Q (texts (take i names)) (chars x.now ∷ []) (All-weaker P Q f (texts (take i names)) a) (All-cons Q (chars x.now) [] q (All-nil Q)))

-- a name that stands in an expression is among those that it calls
module _ (n : Text) where
  part_called : {e p : Expression} → Part e p → p ≡ Ident n → Contains (calls_of e) n
  part_called whole h = subst (λ x. Contains (calls_of x) n) (sym h) (Contains-push [] n)
  part_called (of_pos_pred d) h = part_called d h
  part_called (of_neg_pred d) h = part_called d h
  part_called (of_seq_left {a = a} {b = b} d) h = Contains-append_left (calls_of a) (calls_of b) n (part_called d h)
  part_called (of_seq_right {a = a} {b = b} d) h = Contains-append_right (calls_of a) (calls_of b) n (part_called d h)
  part_called (of_choice_left {a = a} {b = b} d) h = Contains-append_left (calls_of a) (calls_of b) n (part_called d h)
  part_called (of_choice_right {a = a} {b = b} d) h = Contains-append_right (calls_of a) (calls_of b) n (part_called d h)
  part_called (of_opt d) h = part_called d h
  part_called (of_rep d) h = part_called d h
  part_called (of_rep_once d) h = part_called d h
  part_called (of_rep_exact d) h = part_called d h
  part_called (of_rep_min d) h = part_called d h
  part_called (of_rep_max d) h = part_called d h
  part_called (of_rep_min_max d) h = part_called d h
  part_called (of_push d) h = part_called d h
  part_called (of_tag d) h = part_called d h
  part_called (of_restore d) h = part_called d h

  abbrev Calls : List Text → Rule → Type 0
  Calls ts r = Part r.body (Ident n) → Contains ts n

  all_called : (rules : List OptimizedRule) → All (Calls (flat_map calls_in rules)) (optimized_rules_of rules)
  all_called [] = All-nil (Calls [])
  all_called (x ∷ rules) =
      let others = flat_map calls_in rules in
      All-cons (Calls (calls_in x ++ others)) (optimized_rule_of x) (optimized_rules_of rules)
      (λ p. Contains-append_left (calls_in x) others n (part_called p refl))
      (All-weaker (Calls others) (Calls (calls_in x ++ others)) (λ r f p. Contains-append_right (calls_in x) others n (f p)) (optimized_rules_of rules) (all_called rules))

-- what is so of all names that were gathered is so of each that the rules call
pub each_gathered : (P : Text → Type 0) (rules : List OptimizedRule) (names items : List (Bor (List ℕ))) (i j : ℕ) → length rules ≤ i → texts names ≡ flat_map calls_in (take i rules)
    → items ≡ names → length items ≤ j → All P (texts (take j items)) → (n : Text) → InSomeRule (optimized_rules_of rules) (Ident n) → P n
each_gathered P rules names items i j h e at k a n (r, there, p) =
    let called : Contains (flat_map calls_in rules) n = All-contains (Calls n (flat_map calls_in rules)) (optimized_rules_of rules) r (all_called n rules) there p in
    let all : texts (take j items) ≡ flat_map calls_in rules = ap texts (take_all j items k ∙ at) ∙ (e ∙ ap (λ rs. flat_map calls_in rs) (take_all i rules h)) in
    All-contains P (texts (take j items)) n a (subst (λ ts. Contains ts n) (sym all) called)
