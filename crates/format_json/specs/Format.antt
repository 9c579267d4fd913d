-- Expressions and rules as JSON values.
use Rattle.std.specs.Prelude.{ℕ, ℤ, Option, Some, None, List, [], ◌∷◌, ◌++◌, codes, map, string_bytes}
use Rattle.std.specs.declared.string.String.{String}
use Rattle.std.specs.declared.alloc.Global.{Global}
use Rattle.serde_json.specs.Data.{Data, array, item, member, no_items, no_members, null, number, object, string, unsigned}
use Rattle.serde_json.specs.Find.{of_integer}
use Rattle.serde_json.specs.View.{items_of}
use Rattle.base_ast.specs.declared.ast.RuleType.{RuleType}
use Rattle.base_ast.specs.declared.ast.RuleType.TheVariants.{Normal, Silent, Atomic, CompoundAtomic, NonAtomic}
use Rattle.base_ast.specs.declared.ast.Rule as bare_rule
use Rattle.base_ast.specs.declared.ast.Expr as bare
use Rattle.base_ast.specs.declared.optimized.OptimizedExpr as optimized
use Rattle.base_ast.specs.declared.optimized.OptimizedRule as optimized_rule

-- a node: a list of its form's name and its arguments
abbrev pub form : List ℕ → Data
form name = array (item (string name) no_items)

abbrev pub form_with : List ℕ → Data → Data
form_with name x = array (item (string name) (item x no_items))

abbrev pub form_with_two : List ℕ → Data → Data → Data
form_with_two name x y = array (item (string name) (item x (item y no_items)))

-- arguments: a text, a count, an index of the stack, the end of a slice, and texts
abbrev pub text_data : String Global → Data
text_data s = string (string_bytes s)

abbrev pub count_data : ℕ → Data
count_data n = number (unsigned n)

abbrev pub place_data : ℤ → Data
place_data z = number (of_integer z)

abbrev pub end_data : Option ℤ → Data
end_data None = null
end_data (Some z) = place_data z

abbrev pub texts_data : List (String Global) → Data
texts_data ss = array (items_of (map text_data ss))

-- an expression's nodes in preorder; the `p` and `q` are the addresses of its boxes
abbrev pub nodes_of : bare.Expr → List Data
nodes_of (bare.Str s) = form_with (codes "str") (text_data s) ∷ []
nodes_of (bare.Insens s) = form_with (codes "insens") (text_data s) ∷ []
nodes_of (bare.Range s t) = form_with_two (codes "range") (text_data s) (text_data t) ∷ []
nodes_of (bare.Ident s) = form_with (codes "ident") (text_data s) ∷ []
nodes_of (bare.PeekSlice i j) = form_with_two (codes "peek_slice") (place_data i) (end_data j) ∷ []
nodes_of (bare.PosPred' p x) = form (codes "pos_pred") ∷ nodes_of x
nodes_of (bare.NegPred' p x) = form (codes "neg_pred") ∷ nodes_of x
nodes_of (bare.Seq' p x q y) = form (codes "seq") ∷ nodes_of x ++ nodes_of y
nodes_of (bare.Choice' p x q y) = form (codes "choice") ∷ nodes_of x ++ nodes_of y
nodes_of (bare.Opt' p x) = form (codes "opt") ∷ nodes_of x
nodes_of (bare.Rep' p x) = form (codes "rep") ∷ nodes_of x
nodes_of (bare.RepOnce' p x) = form (codes "rep_once") ∷ nodes_of x
nodes_of (bare.RepExact' p x n) = form_with (codes "rep_exact") (count_data n) ∷ nodes_of x
nodes_of (bare.RepMin' p x m) = form_with (codes "rep_min") (count_data m) ∷ nodes_of x
nodes_of (bare.RepMax' p x n) = form_with (codes "rep_max") (count_data n) ∷ nodes_of x
nodes_of (bare.RepMinMax' p x m n) =
    form_with_two (codes "rep_min_max") (count_data m) (count_data n) ∷ nodes_of x
nodes_of (bare.Skip ss) = form_with (codes "skip") (texts_data ss.items) ∷ []
nodes_of (bare.Push' p x) = form (codes "push") ∷ nodes_of x
nodes_of (bare.PushLiteral s) = form_with (codes "push_literal") (text_data s) ∷ []
nodes_of (bare.NodeTag' p x s) = form_with (codes "node_tag") (text_data s) ∷ nodes_of x

-- an optimized expression's nodes in preorder
abbrev pub optimized_nodes_of : optimized.OptimizedExpr → List Data
optimized_nodes_of (optimized.Str s) = form_with (codes "str") (text_data s) ∷ []
optimized_nodes_of (optimized.Insens s) = form_with (codes "insens") (text_data s) ∷ []
optimized_nodes_of (optimized.Range s t) = form_with_two (codes "range") (text_data s) (text_data t) ∷ []
optimized_nodes_of (optimized.Ident s) = form_with (codes "ident") (text_data s) ∷ []
optimized_nodes_of (optimized.PeekSlice i j) =
    form_with_two (codes "peek_slice") (place_data i) (end_data j) ∷ []
optimized_nodes_of (optimized.PosPred' p x) = form (codes "pos_pred") ∷ optimized_nodes_of x
optimized_nodes_of (optimized.NegPred' p x) = form (codes "neg_pred") ∷ optimized_nodes_of x
optimized_nodes_of (optimized.Seq' p x q y) =
    form (codes "seq") ∷ optimized_nodes_of x ++ optimized_nodes_of y
optimized_nodes_of (optimized.Choice' p x q y) =
    form (codes "choice") ∷ optimized_nodes_of x ++ optimized_nodes_of y
optimized_nodes_of (optimized.Opt' p x) = form (codes "opt") ∷ optimized_nodes_of x
optimized_nodes_of (optimized.Rep' p x) = form (codes "rep") ∷ optimized_nodes_of x
optimized_nodes_of (optimized.RepOnce' p x) = form (codes "rep_once") ∷ optimized_nodes_of x
optimized_nodes_of (optimized.Skip ss) = form_with (codes "skip") (texts_data ss.items) ∷ []
optimized_nodes_of (optimized.Push' p x) = form (codes "push") ∷ optimized_nodes_of x
optimized_nodes_of (optimized.PushLiteral s) = form_with (codes "push_literal") (text_data s) ∷ []
optimized_nodes_of (optimized.NodeTag' p x s) =
    form_with (codes "node_tag") (text_data s) ∷ optimized_nodes_of x
optimized_nodes_of (optimized.RestoreOnErr' p x) = form (codes "restore_on_err") ∷ optimized_nodes_of x

-- the name of a type
abbrev pub type_name : RuleType → List ℕ
type_name Normal = codes "normal"
type_name Silent = codes "silent"
type_name Atomic = codes "atomic"
type_name CompoundAtomic = codes "compound_atomic"
type_name NonAtomic = codes "non_atomic"

-- a rule of that name and type, whose body has these nodes
abbrev pub rule_data : List ℕ → RuleType → List Data → Data
rule_data name ty nodes = object (member (codes "expr") (array (items_of nodes))
    (member (codes "name") (string name) (member (codes "type") (string (type_name ty)) no_members)))

-- lists of rules
abbrev pub rules_data : List bare_rule.Rule → Data
rules_data rules = array (items_of (map (λ r. rule_data (string_bytes r.name) r.ty (nodes_of r.expr)) rules))

abbrev pub optimized_rules_data : List optimized_rule.OptimizedRule → Data
optimized_rules_data rules =
    array (items_of (map (λ r. rule_data (string_bytes r.name) r.ty (optimized_nodes_of r.expr)) rules))
