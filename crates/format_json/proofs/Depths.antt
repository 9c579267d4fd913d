-- What is written nests a few levels deep, so its text is read back.
use Rattle.std.proofs.Common.{◌≡◌, ◌≤◌, ℕ, ℤ, max, Option, Some, None, Result, Ok, Err, IfOk, List, [], ◌∷◌, ◌++◌, String, Global, map, refl, sym, ap, ap₂, ◌∙◌, subst, arith}
use Rattle.serde_json.specs.Data.{Data, depth, items_depth}
use Rattle.serde_json.specs.Read.{max_depth, read}
use Rattle.serde_json.specs.View.{items_of}
use Rattle.base_ast.specs.declared.ast.Rule as bare_rule
use Rattle.base_ast.specs.declared.ast.Expr as bare
use Rattle.base_ast.specs.declared.optimized.OptimizedExpr as optimized
use Rattle.base_ast.specs.declared.optimized.OptimizedRule.{OptimizedRule}
use Rattle.format_json.specs.Format.{end_data, nodes_of, optimized_nodes_of, optimized_rules_data, rule_data, rules_data, text_data}
use Rattle.format_json.specs.Reading.{AreOptimizedRules, AreRules, Members, members_of, members_of_optimized, members_of_rule}
use Rattle.std.specs.Prelude.{string_bytes as bytes_of}

both : (a b n : ℕ) → a ≤ n → b ≤ n → max a b ≤ n
both a b n h k = omega (arith, h, k)

append_depth : (ds es : List Data) (n : ℕ) → items_depth (items_of ds) ≤ n → items_depth (items_of es) ≤ n → items_depth (items_of (ds ++ es)) ≤ n
append_depth [] es n h k = k
append_depth (d ∷ ds) es n h k =
    let first : depth d ≤ n = omega (arith, h) in
    let rest : items_depth (items_of ds) ≤ n = omega (arith, h) in
    both (depth d) (items_depth (items_of (ds ++ es))) n first (append_depth ds es n rest k)

map_depth : {A : Type 0} (f : A → Data) (n : ℕ) → ((x : A) → depth (f x) ≤ n) → (xs : List A) → items_depth (items_of (map f xs)) ≤ n
map_depth f n h [] = omega arith
map_depth f n h (x ∷ xs) = both (depth (f x)) (items_depth (items_of (map f xs))) n (h x) (map_depth f n h xs)

texts_depth : (ss : List (String Global)) → items_depth (items_of (map text_data ss)) ≤ 0
texts_depth ss = map_depth text_data 0 (λ s. omega arith) ss

end_depth : (j : Option ℤ) → depth (end_data j) ≤ 0
end_depth None = omega arith
end_depth (Some z) = omega arith

pub nodes_depth : (e : bare.Expr) → items_depth (items_of (nodes_of e)) ≤ 2
nodes_depth (bare.Str s) = omega arith
nodes_depth (bare.Insens s) = omega arith
nodes_depth (bare.Range s t) = omega arith
nodes_depth (bare.Ident s) = omega arith
nodes_depth (bare.PeekSlice i j) = let end_ = end_depth j in omega arith
nodes_depth (bare.PosPred' p x) = let rest = nodes_depth x in omega arith
nodes_depth (bare.NegPred' p x) = let rest = nodes_depth x in omega arith
nodes_depth (bare.Opt' p x) = let rest = nodes_depth x in omega arith
nodes_depth (bare.Rep' p x) = let rest = nodes_depth x in omega arith
nodes_depth (bare.RepOnce' p x) = let rest = nodes_depth x in omega arith
nodes_depth (bare.Push' p x) = let rest = nodes_depth x in omega arith
nodes_depth (bare.PushLiteral s) = omega arith
nodes_depth (bare.NodeTag' p x s) = let rest = nodes_depth x in omega arith
nodes_depth (bare.Seq' p x q y) = let rest = append_depth (nodes_of x) (nodes_of y) 2 (nodes_depth x) (nodes_depth y) in omega arith
nodes_depth (bare.Choice' p x q y) = let rest = append_depth (nodes_of x) (nodes_of y) 2 (nodes_depth x) (nodes_depth y) in omega arith
nodes_depth (bare.RepExact' p x n) = let rest = nodes_depth x in omega arith
nodes_depth (bare.RepMin' p x n) = let rest = nodes_depth x in omega arith
nodes_depth (bare.RepMax' p x n) = let rest = nodes_depth x in omega arith
nodes_depth (bare.RepMinMax' p x m n) = let rest = nodes_depth x in omega arith
nodes_depth (bare.Skip ss) = let rest = texts_depth ss.items in omega arith

pub optimized_nodes_depth : (e : optimized.OptimizedExpr) → items_depth (items_of (optimized_nodes_of e)) ≤ 2
optimized_nodes_depth (optimized.Str s) = omega arith
optimized_nodes_depth (optimized.Insens s) = omega arith
optimized_nodes_depth (optimized.Range s t) = omega arith
optimized_nodes_depth (optimized.Ident s) = omega arith
optimized_nodes_depth (optimized.PeekSlice i j) = let end_ = end_depth j in omega arith
optimized_nodes_depth (optimized.PosPred' p x) = let rest = optimized_nodes_depth x in omega arith
optimized_nodes_depth (optimized.NegPred' p x) = let rest = optimized_nodes_depth x in omega arith
optimized_nodes_depth (optimized.Opt' p x) = let rest = optimized_nodes_depth x in omega arith
optimized_nodes_depth (optimized.Rep' p x) = let rest = optimized_nodes_depth x in omega arith
optimized_nodes_depth (optimized.RepOnce' p x) = let rest = optimized_nodes_depth x in omega arith
optimized_nodes_depth (optimized.Push' p x) = let rest = optimized_nodes_depth x in omega arith
optimized_nodes_depth (optimized.PushLiteral s) = omega arith
optimized_nodes_depth (optimized.NodeTag' p x s) = let rest = optimized_nodes_depth x in omega arith
optimized_nodes_depth (optimized.RestoreOnErr' p x) = let rest = optimized_nodes_depth x in omega arith
optimized_nodes_depth (optimized.Seq' p x q y) = let rest = append_depth (optimized_nodes_of x) (optimized_nodes_of y) 2 (optimized_nodes_depth x) (optimized_nodes_depth y) in omega arith
optimized_nodes_depth (optimized.Choice' p x q y) = let rest = append_depth (optimized_nodes_of x) (optimized_nodes_of y) 2 (optimized_nodes_depth x) (optimized_nodes_depth y) in omega arith
optimized_nodes_depth (optimized.Skip ss) = let rest = texts_depth ss.items in omega arith

abbrev rule_object : bare_rule.Rule → Data
rule_object r = rule_data (bytes_of r.name) r.ty (nodes_of r.expr)

abbrev optimized_object : OptimizedRule → Data
optimized_object r = rule_data (bytes_of r.name) r.ty (optimized_nodes_of r.expr)

rules_depth : (rules : List bare_rule.Rule) → depth (rules_data rules) ≤ max_depth
rules_depth rules =
    let each = map_depth rule_object 4 (λ r. let body = nodes_depth r.expr in omega arith) rules in
    omega (arith, each)

optimized_depth : (rules : List OptimizedRule) → depth (optimized_rules_data rules) ≤ max_depth
optimized_depth rules =
    let each = map_depth optimized_object 4 (λ r. let body = optimized_nodes_depth r.expr in omega arith) rules in
    omega (arith, each)

-- the text of a list of rules is read as a list of objects with their members
listed : {R : Type 0} (data_of : R → Data) (of_rule : R → Members) → ((r : R) → members_of (data_of r) ≡ of_rule r) → (rules : List R) → map members_of (map data_of rules) ≡ map of_rule rules
listed data_of of_rule h [] = refl
listed data_of of_rule h (r ∷ rules) = ap₂ (λ x xs. x ∷ xs) (h r) (listed data_of of_rule h rules)

pub rules_back : {E : Type 0} (rules : List bare_rule.Rule) (v : Data) (r : Result (String Global) E) → v ≡ rules_data rules
    → IfOk r (λ s. depth v ≤ max_depth → read (bytes_of s) ≡ Some v) → IfOk r (λ s. AreRules (bytes_of s) rules)
rules_back rules v (Err e) same h = tt
rules_back rules v (Ok s) same h =
    let P : Data → Type 0 = λ d. depth d ≤ max_depth in
    (map rule_object rules, h (subst P (sym same) (rules_depth rules)) ∙ ap Some same, listed rule_object members_of_rule (λ r. refl) rules)

pub optimized_back : {E : Type 0} (rules : List OptimizedRule) (v : Data) (r : Result (String Global) E) → v ≡ optimized_rules_data rules
    → IfOk r (λ s. depth v ≤ max_depth → read (bytes_of s) ≡ Some v) → IfOk r (λ s. AreOptimizedRules (bytes_of s) rules)
optimized_back rules v (Err e) same h = tt
optimized_back rules v (Ok s) same h =
    let P : Data → Type 0 = λ d. depth d ≤ max_depth in
    (map optimized_object rules, h (subst P (sym same) (optimized_depth rules)) ∙ ap Some same, listed optimized_object members_of_optimized (λ r. refl) rules)
