-- Nodes in preorder are those of one expression at most.
use Rattle.std.proofs.Common.{◌≡◌, ℕ, ℤ, pos, negsuc, cond, bytes_eq, Option, Some, None, List, [], ◌∷◌, ◌++◌, String, Global, map, refl, sym, ap, ap₂, ◌∙◌, codes, append_assoc, string_bytes}
use Rattle.std.specs.Str.{chars}
use Rattle.serde_json.specs.Data.{Data, Items, Num, array, item, no_items, number, string, unsigned, negative, float}
use Rattle.serde_json.specs.Read.{read}
use Rattle.serde_json.specs.View.{items_of}
use Rattle.base_language.specs.Language.Text.{Text}
use Rattle.base_language.specs.Language.Expression.{Expression, Rule}
use Rattle.base_language.specs.Language.Expression as e
use Rattle.base_ast.specs.Ast.{expression_of, rule_of_code, rule_type_of, rules_of, text_of}
use Rattle.base_ast.specs.Optimized.{optimized_expression_of, optimized_rule_of, optimized_rules_of}
use Rattle.base_ast.specs.declared.ast.Expr as bare
use Rattle.base_ast.specs.declared.ast.Rule as bare_rule
use Rattle.base_ast.specs.declared.ast.RuleType.{RuleType}
use Rattle.base_ast.specs.declared.ast.RuleType.TheVariants.{Normal, Silent, Atomic, CompoundAtomic, NonAtomic}
use Rattle.base_ast.specs.declared.optimized.OptimizedExpr as optimized
use Rattle.base_ast.specs.declared.optimized.OptimizedRule.{OptimizedRule}
use Rattle.format_json.specs.Format.{end_data, nodes_of, optimized_nodes_of, place_data, text_data, type_name}
use Rattle.format_json.specs.Reading.{AreOptimizedRules, AreRules, Members, members_of, members_of_optimized, members_of_rule, rule_members}

items_one : (ds es : List Data) → items_of ds ≡ items_of es → ds ≡ es
items_one [] [] h = refl
items_one [] (e ∷ es) h = cc
items_one (d ∷ ds) [] h = cc
items_one (d ∷ ds) (e ∷ es) h =
    let inner : items_of ds ≡ items_of es = cc in
    let rest = items_one ds es inner in
    cc

pub arrays_one : (ds es : List Data) → ◌≡◌ {A = Option Data} (Some (array (items_of ds))) (Some (array (items_of es))) → ds ≡ es
arrays_one ds es h = let inner : items_of ds ≡ items_of es = cc in items_one ds es inner

abbrev pub unary : (Expression → Expression) → List Expression → List Expression
unary f [] = []
unary f (x ∷ es) = f x ∷ es

abbrev pub binary : (Expression → Expression → Expression) → List Expression → List Expression
binary f [] = []
binary f (x ∷ []) = []
binary f (x ∷ (y ∷ es)) = f x y ∷ es

abbrev text_in : Data → Text
text_in (string s) = chars s
text_in _ = []

abbrev count_of_num : Num → ℕ
count_of_num (unsigned n) = n
count_of_num (negative z) = 0
count_of_num (float x) = 0

abbrev count_in : Data → ℕ
count_in (number n) = count_of_num n
count_in _ = 0

abbrev place_of_num : Num → ℤ
place_of_num (unsigned n) = pos n
place_of_num (negative z) = z
place_of_num (float x) = pos 0

abbrev place_in : Data → ℤ
place_in (number n) = place_of_num n
place_in _ = pos 0

abbrev end_in : Data → Option ℤ
end_in (number n) = Some (place_of_num n)
end_in _ = None

abbrev texts_of_items : Items → List Text
texts_of_items no_items = []
texts_of_items (item d ds) = text_in d ∷ texts_of_items ds

abbrev texts_in : Data → List Text
texts_in (array ds) = texts_of_items ds
texts_in _ = []

abbrev bare_node : List ℕ → List Expression → List Expression
bare_node form es = cond (bytes_eq form (codes "pos_pred")) (unary e.PosPred es)
    (cond (bytes_eq form (codes "neg_pred")) (unary e.NegPred es)
    (cond (bytes_eq form (codes "seq")) (binary e.Seq es)
    (cond (bytes_eq form (codes "choice")) (binary e.Choice es)
    (cond (bytes_eq form (codes "opt")) (unary e.Opt es)
    (cond (bytes_eq form (codes "rep")) (unary e.Rep es)
    (cond (bytes_eq form (codes "rep_once")) (unary e.RepOnce es)
    (cond (bytes_eq form (codes "push")) (unary e.Push es)
    (unary e.RestoreOnErr es))))))))

abbrev node_of_one : List ℕ → Data → List Expression → List Expression
node_of_one form d es = cond (bytes_eq form (codes "str")) (e.Str (text_in d) ∷ es)
    (cond (bytes_eq form (codes "insens")) (e.Insens (text_in d) ∷ es)
    (cond (bytes_eq form (codes "ident")) (e.Ident (text_in d) ∷ es)
    (cond (bytes_eq form (codes "push_literal")) (e.PushLiteral (text_in d) ∷ es)
    (cond (bytes_eq form (codes "node_tag")) (unary (λ x. e.NodeTag x (text_in d)) es)
    (cond (bytes_eq form (codes "rep_exact")) (unary (λ x. e.RepExact x (count_in d)) es)
    (cond (bytes_eq form (codes "rep_min")) (unary (λ x. e.RepMin x (count_in d)) es)
    (cond (bytes_eq form (codes "rep_max")) (unary (λ x. e.RepMax x (count_in d)) es)
    (e.Skip (texts_in d) ∷ es))))))))

abbrev node_of_two : List ℕ → Data → Data → List Expression → List Expression
node_of_two form c d es = cond (bytes_eq form (codes "range")) (e.Range (text_in c) (text_in d) ∷ es)
    (cond (bytes_eq form (codes "rep_min_max")) (unary (λ x. e.RepMinMax x (count_in c) (count_in d)) es)
    (e.PeekSlice (place_in c) (end_in d) ∷ es))

abbrev node : Data → List Expression → List Expression
node (array (item (string form) no_items)) es = bare_node form es
node (array (item (string form) (item d no_items))) es = node_of_one form d es
node (array (item (string form) (item c (item d no_items)))) es = node_of_two form c d es
node _ es = []

-- the expressions whose nodes these are
abbrev pub decode : List Data → List Expression
decode [] = []
decode (d ∷ ds) = node d (decode ds)

place_back : (z : ℤ) → place_in (place_data z) ≡ z
place_back (pos n) = refl
place_back (negsuc n) = refl

end_back : (j : Option ℤ) → end_in (end_data j) ≡ j
end_back None = refl
end_back (Some z) = ap Some (place_back z)

texts_back : (ss : List (String Global)) → texts_of_items (items_of (map text_data ss)) ≡ map text_of ss
texts_back [] = refl
texts_back (s ∷ ss) = ap (λ ts. text_of s ∷ ts) (texts_back ss)

after_two : (f : Expression → Expression → Expression) (xs ys rest : List Data) (x y : Expression) → decode (xs ++ (ys ++ rest)) ≡ x ∷ decode (ys ++ rest) → decode (ys ++ rest) ≡ y ∷ decode rest
    → binary f (decode ((xs ++ ys) ++ rest)) ≡ f x y ∷ decode rest
after_two f xs ys rest x y h k = ap (binary f) (ap decode (append_assoc xs ys rest) ∙ (h ∙ ap (λ t. x ∷ t) k))

pub decoded : (b : bare.Expr) (rest : List Data) → decode (nodes_of b ++ rest) ≡ expression_of b ∷ decode rest
decoded (bare.Str s) rest = refl
decoded (bare.Insens s) rest = refl
decoded (bare.Range s t) rest = refl
decoded (bare.Ident s) rest = refl
decoded (bare.PeekSlice i j) rest = ap₂ (λ x y. e.PeekSlice x y ∷ decode rest) (place_back i) (end_back j)
decoded (bare.PosPred' p x) rest = ap (unary e.PosPred) (decoded x rest)
decoded (bare.NegPred' p x) rest = ap (unary e.NegPred) (decoded x rest)
decoded (bare.Seq' p x q y) rest = after_two e.Seq (nodes_of x) (nodes_of y) rest (expression_of x) (expression_of y) (decoded x (nodes_of y ++ rest)) (decoded y rest)
decoded (bare.Choice' p x q y) rest = after_two e.Choice (nodes_of x) (nodes_of y) rest (expression_of x) (expression_of y) (decoded x (nodes_of y ++ rest)) (decoded y rest)
decoded (bare.Opt' p x) rest = ap (unary e.Opt) (decoded x rest)
decoded (bare.Rep' p x) rest = ap (unary e.Rep) (decoded x rest)
decoded (bare.RepOnce' p x) rest = ap (unary e.RepOnce) (decoded x rest)
decoded (bare.RepExact' p x n) rest = ap (unary (λ y. e.RepExact y n)) (decoded x rest)
decoded (bare.RepMin' p x n) rest = ap (unary (λ y. e.RepMin y n)) (decoded x rest)
decoded (bare.RepMax' p x n) rest = ap (unary (λ y. e.RepMax y n)) (decoded x rest)
decoded (bare.RepMinMax' p x m n) rest = ap (unary (λ y. e.RepMinMax y m n)) (decoded x rest)
decoded (bare.Skip ss) rest = ap (λ ts. e.Skip ts ∷ decode rest) (texts_back ss.items)
decoded (bare.Push' p x) rest = ap (unary e.Push) (decoded x rest)
decoded (bare.PushLiteral s) rest = refl
decoded (bare.NodeTag' p x s) rest = ap (unary (λ y. e.NodeTag y (text_of s))) (decoded x rest)

pub optimized_decoded : (b : optimized.OptimizedExpr) (rest : List Data) → decode (optimized_nodes_of b ++ rest) ≡ optimized_expression_of b ∷ decode rest
optimized_decoded (optimized.Str s) rest = refl
optimized_decoded (optimized.Insens s) rest = refl
optimized_decoded (optimized.Range s t) rest = refl
optimized_decoded (optimized.Ident s) rest = refl
optimized_decoded (optimized.PeekSlice i j) rest = ap₂ (λ x y. e.PeekSlice x y ∷ decode rest) (place_back i) (end_back j)
optimized_decoded (optimized.PosPred' p x) rest = ap (unary e.PosPred) (optimized_decoded x rest)
optimized_decoded (optimized.NegPred' p x) rest = ap (unary e.NegPred) (optimized_decoded x rest)
optimized_decoded (optimized.Seq' p x q y) rest = after_two e.Seq (optimized_nodes_of x) (optimized_nodes_of y) rest (optimized_expression_of x) (optimized_expression_of y) (optimized_decoded x (optimized_nodes_of y ++ rest)) (optimized_decoded y rest)
optimized_decoded (optimized.Choice' p x q y) rest = after_two e.Choice (optimized_nodes_of x) (optimized_nodes_of y) rest (optimized_expression_of x) (optimized_expression_of y) (optimized_decoded x (optimized_nodes_of y ++ rest)) (optimized_decoded y rest)
optimized_decoded (optimized.Opt' p x) rest = ap (unary e.Opt) (optimized_decoded x rest)
optimized_decoded (optimized.Rep' p x) rest = ap (unary e.Rep) (optimized_decoded x rest)
optimized_decoded (optimized.RepOnce' p x) rest = ap (unary e.RepOnce) (optimized_decoded x rest)
optimized_decoded (optimized.Skip ss) rest = ap (λ ts. e.Skip ts ∷ decode rest) (texts_back ss.items)
optimized_decoded (optimized.Push' p x) rest = ap (unary e.Push) (optimized_decoded x rest)
optimized_decoded (optimized.PushLiteral s) rest = refl
optimized_decoded (optimized.NodeTag' p x s) rest = ap (unary (λ y. e.NodeTag y (text_of s))) (optimized_decoded x rest)
optimized_decoded (optimized.RestoreOnErr' p x) rest = ap (unary e.RestoreOnErr) (optimized_decoded x rest)

-- one expression, if the nodes are the same
whole_one : (x y : Expression) (xs ys : List Data) → decode (xs ++ []) ≡ x ∷ [] → decode (ys ++ []) ≡ y ∷ [] → xs ≡ ys → x ≡ y
whole_one x y xs ys h k same = let both : x ∷ [] ≡ y ∷ [] = sym h ∙ (ap (λ t. decode (t ++ [])) same ∙ k) in cc

abbrev type_named : List ℕ → RuleType
type_named name = cond (bytes_eq name (codes "normal")) Normal (cond (bytes_eq name (codes "silent")) Silent
    (cond (bytes_eq name (codes "atomic")) Atomic (cond (bytes_eq name (codes "compound_atomic")) CompoundAtomic NonAtomic)))

type_back : (ty : RuleType) → type_named (type_name ty) ≡ ty
type_back Normal = refl
type_back Silent = refl
type_back Atomic = refl
type_back CompoundAtomic = refl
type_back NonAtomic = refl

-- members are those of one name, one type and one list of nodes
name_one : (name other : List ℕ) (ty typ : RuleType) (xs ys : List Data) → rule_members name ty xs ≡ rule_members other typ ys → name ≡ other
name_one name other ty typ xs ys h = let both : ◌≡◌ {A = Option Data} (Some (string name)) (Some (string other)) = ap (λ m. m.name) h in cc

type_one : (name other : List ℕ) (ty typ : RuleType) (xs ys : List Data) → rule_members name ty xs ≡ rule_members other typ ys → ty ≡ typ
type_one name other ty typ xs ys h =
    let both : ◌≡◌ {A = Option Data} (Some (string (type_name ty))) (Some (string (type_name typ))) = ap (λ m. m.type_of) h in
    let names : type_name ty ≡ type_name typ = cc in
    sym (type_back ty) ∙ (ap type_named names ∙ type_back typ)

nodes_one : (name other : List ℕ) (ty typ : RuleType) (xs ys : List Data) → rule_members name ty xs ≡ rule_members other typ ys → xs ≡ ys
nodes_one name other ty typ xs ys h = arrays_one xs ys (ap (λ m. m.body) h)

made_one : (n m : Text) (t u : e.RuleType) (x y : Expression) → n ≡ m → t ≡ u → x ≡ y → ◌≡◌ {A = Rule} (record { name = n; type_of = t; body = x }) (record { name = m; type_of = u; body = y })
made_one n m t u x y h k l =
    let made : Text → e.RuleType → Expression → Rule = λ n t x. record { name = n; type_of = t; body = x } in
    ap (λ n. made n t x) h ∙ (ap (λ t. made m t x) k ∙ ap (λ x. made m u x) l)

rule_one : (r s : bare_rule.Rule) → members_of_rule r ≡ members_of_rule s → rule_of_code r ≡ rule_of_code s
rule_one r s h =
    let name = name_one (string_bytes r.name) (string_bytes s.name) r.ty s.ty (nodes_of r.expr) (nodes_of s.expr) h in
    let ty = type_one (string_bytes r.name) (string_bytes s.name) r.ty s.ty (nodes_of r.expr) (nodes_of s.expr) h in
    let nodes = nodes_one (string_bytes r.name) (string_bytes s.name) r.ty s.ty (nodes_of r.expr) (nodes_of s.expr) h in
    let body = whole_one (expression_of r.expr) (expression_of s.expr) (nodes_of r.expr) (nodes_of s.expr) (decoded r.expr []) (decoded s.expr []) nodes in
    made_one _ _ _ _ _ _ (ap chars name) (ap rule_type_of ty) body

optimized_one : (r s : OptimizedRule) → members_of_optimized r ≡ members_of_optimized s → optimized_rule_of r ≡ optimized_rule_of s
optimized_one r s h =
    let name = name_one (string_bytes r.name) (string_bytes s.name) r.ty s.ty (optimized_nodes_of r.expr) (optimized_nodes_of s.expr) h in
    let ty = type_one (string_bytes r.name) (string_bytes s.name) r.ty s.ty (optimized_nodes_of r.expr) (optimized_nodes_of s.expr) h in
    let nodes = nodes_one (string_bytes r.name) (string_bytes s.name) r.ty s.ty (optimized_nodes_of r.expr) (optimized_nodes_of s.expr) h in
    let body = whole_one (optimized_expression_of r.expr) (optimized_expression_of s.expr) (optimized_nodes_of r.expr) (optimized_nodes_of s.expr) (optimized_decoded r.expr []) (optimized_decoded s.expr []) nodes in
    made_one _ _ _ _ _ _ (ap chars name) (ap rule_type_of ty) body

lists_one : {R : Type 0} (of_rule : R → Members) (view_of : R → Rule) → ((r s : R) → of_rule r ≡ of_rule s → view_of r ≡ view_of s) → (rules others : List R) → map of_rule rules ≡ map of_rule others
    → map view_of rules ≡ map view_of others
lists_one of_rule view_of one [] [] h = refl
lists_one of_rule view_of one [] (s ∷ others) h = cc
lists_one of_rule view_of one (r ∷ rules) [] h = cc
lists_one of_rule view_of one (r ∷ rules) (s ∷ others) h =
    let first : of_rule r ≡ of_rule s = cc in
    let rest : map of_rule rules ≡ map of_rule others = cc in
    ap₂ (λ x xs. x ∷ xs) (one r s first) (lists_one of_rule view_of one rules others rest)

values_one : (text : List ℕ) (ds es : List Data) → read text ≡ Some (array (items_of ds)) → read text ≡ Some (array (items_of es)) → ds ≡ es
values_one text ds es h k = arrays_one ds es (sym h ∙ k)

pub rules_are_one : (text : List ℕ) (rules others : List bare_rule.Rule) → AreRules text rules → AreRules text others → rules_of rules ≡ rules_of others
rules_are_one text rules others (ds, reads, lists) (es, reads', lists') =
    lists_one members_of_rule rule_of_code rule_one rules others (sym lists ∙ (ap (map members_of) (values_one text ds es reads reads') ∙ lists'))

pub optimized_are_one : (text : List ℕ) (rules others : List OptimizedRule) → AreOptimizedRules text rules → AreOptimizedRules text others → optimized_rules_of rules ≡ optimized_rules_of others
optimized_are_one text rules others (ds, reads, lists) (es, reads', lists') =
    lists_one members_of_optimized optimized_rule_of optimized_one rules others (sym lists ∙ (ap (map members_of) (values_one text ds es reads reads') ∙ lists'))
