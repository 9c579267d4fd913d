-- Names, expressions and rules in binary form.
use Rattle.std.specs.Prelude.{ℕ, ℤ, Option, Some, None, List, [], ◌∷◌, ◌++◌, flat_map, length, string_bytes}
use Rattle.std.specs.Borrow.{Bor}
use Rattle.std.specs.Int.{cast_unsigned, to_le_bytes, w32, w64}
use Rattle.base_ast.specs.declared.ast.RuleType.{RuleType}
use Rattle.base_ast.specs.declared.ast.RuleType.TheVariants.{Normal, Silent, Atomic, CompoundAtomic, NonAtomic}
use Rattle.base_ast.specs.declared.ast.Rule as bare_rule
use Rattle.base_ast.specs.declared.ast.Expr as bare
use Rattle.base_ast.specs.declared.optimized.OptimizedExpr as optimized
use Rattle.base_ast.specs.declared.optimized.OptimizedRule as optimized_rule

-- a size: eight bytes, the lowest first
unfoldable pub size_bytes : ℕ → List ℕ
size_bytes n = to_le_bytes w64 n

-- a count of repetitions: four bytes, the lowest first
unfoldable pub count_bytes : ℕ → List ℕ
count_bytes n = to_le_bytes w32 n

-- an index of the stack: four bytes, the lowest first, in two's complement
unfoldable pub index_bytes : ℤ → List ℕ
index_bytes z = to_le_bytes w32 (cast_unsigned w32 z)

-- the end of a slice of the stack: 0 for none, or 1 and an index
abbrev pub end_bytes : Option ℤ → List ℕ
end_bytes None = 0 ∷ []
end_bytes (Some z) = 1 ∷ index_bytes z

-- a text: its length, and its bytes
abbrev pub text_bytes : List ℕ → List ℕ
text_bytes text = size_bytes (length text) ++ text

-- a list: its length, and its items
abbrev pub list_bytes : {A : Type 0} → (A → List ℕ) → List A → List ℕ
list_bytes item xs = size_bytes (length xs) ++ flat_map item xs

-- the nodes of an expression in preorder: the form's number, its arguments, and then the operands; `p` and
-- `q` are the addresses of boxes
abbrev pub expression_bytes : bare.Expr → List ℕ
expression_bytes (bare.Str s) = 0 ∷ text_bytes (string_bytes s)
expression_bytes (bare.Insens s) = 1 ∷ text_bytes (string_bytes s)
expression_bytes (bare.Range s t) = 2 ∷ text_bytes (string_bytes s) ++ text_bytes (string_bytes t)
expression_bytes (bare.Ident s) = 3 ∷ text_bytes (string_bytes s)
expression_bytes (bare.PeekSlice i j) = 4 ∷ index_bytes i ++ end_bytes j
expression_bytes (bare.PosPred' p x) = 5 ∷ expression_bytes x
expression_bytes (bare.NegPred' p x) = 6 ∷ expression_bytes x
expression_bytes (bare.Seq' p x q y) = 7 ∷ expression_bytes x ++ expression_bytes y
expression_bytes (bare.Choice' p x q y) = 8 ∷ expression_bytes x ++ expression_bytes y
expression_bytes (bare.Opt' p x) = 9 ∷ expression_bytes x
expression_bytes (bare.Rep' p x) = 10 ∷ expression_bytes x
expression_bytes (bare.RepOnce' p x) = 11 ∷ expression_bytes x
expression_bytes (bare.RepExact' p x n) = 12 ∷ count_bytes n ++ expression_bytes x
expression_bytes (bare.RepMin' p x m) = 13 ∷ count_bytes m ++ expression_bytes x
expression_bytes (bare.RepMax' p x n) = 14 ∷ count_bytes n ++ expression_bytes x
expression_bytes (bare.RepMinMax' p x m n) = 15 ∷ (count_bytes m ++ count_bytes n) ++ expression_bytes x
expression_bytes (bare.Skip ss) = 16 ∷ list_bytes (λ s. text_bytes (string_bytes s)) ss.items
expression_bytes (bare.Push' p x) = 17 ∷ expression_bytes x
expression_bytes (bare.PushLiteral s) = 18 ∷ text_bytes (string_bytes s)
expression_bytes (bare.NodeTag' p x s) = 19 ∷ text_bytes (string_bytes s) ++ expression_bytes x

-- the same of an optimized expression
abbrev pub optimized_expression_bytes : optimized.OptimizedExpr → List ℕ
optimized_expression_bytes (optimized.Str s) = 0 ∷ text_bytes (string_bytes s)
optimized_expression_bytes (optimized.Insens s) = 1 ∷ text_bytes (string_bytes s)
optimized_expression_bytes (optimized.Range s t) =
    2 ∷ text_bytes (string_bytes s) ++ text_bytes (string_bytes t)
optimized_expression_bytes (optimized.Ident s) = 3 ∷ text_bytes (string_bytes s)
optimized_expression_bytes (optimized.PeekSlice i j) = 4 ∷ index_bytes i ++ end_bytes j
optimized_expression_bytes (optimized.PosPred' p x) = 5 ∷ optimized_expression_bytes x
optimized_expression_bytes (optimized.NegPred' p x) = 6 ∷ optimized_expression_bytes x
optimized_expression_bytes (optimized.Seq' p x q y) =
    7 ∷ optimized_expression_bytes x ++ optimized_expression_bytes y
optimized_expression_bytes (optimized.Choice' p x q y) =
    8 ∷ optimized_expression_bytes x ++ optimized_expression_bytes y
optimized_expression_bytes (optimized.Opt' p x) = 9 ∷ optimized_expression_bytes x
optimized_expression_bytes (optimized.Rep' p x) = 10 ∷ optimized_expression_bytes x
optimized_expression_bytes (optimized.RepOnce' p x) = 11 ∷ optimized_expression_bytes x
optimized_expression_bytes (optimized.Skip ss) =
    16 ∷ list_bytes (λ s. text_bytes (string_bytes s)) ss.items
optimized_expression_bytes (optimized.Push' p x) = 17 ∷ optimized_expression_bytes x
optimized_expression_bytes (optimized.PushLiteral s) = 18 ∷ text_bytes (string_bytes s)
optimized_expression_bytes (optimized.NodeTag' p x s) =
    19 ∷ text_bytes (string_bytes s) ++ optimized_expression_bytes x
optimized_expression_bytes (optimized.RestoreOnErr' p x) = 20 ∷ optimized_expression_bytes x

-- a type
abbrev pub type_byte : RuleType → ℕ
type_byte Normal = 0
type_byte Silent = 1
type_byte Atomic = 2
type_byte CompoundAtomic = 3
type_byte NonAtomic = 4

-- a rule of that name and type, whose body is written as these bytes
abbrev pub rule_bytes : List ℕ → RuleType → List ℕ → List ℕ
rule_bytes name ty body = text_bytes name ++ (type_byte ty ∷ body)

-- lists of rules
abbrev pub rules_bytes : List bare_rule.Rule → List ℕ
rules_bytes rules = list_bytes (λ r. rule_bytes (string_bytes r.name) r.ty (expression_bytes r.expr)) rules

abbrev pub optimized_rules_bytes : List optimized_rule.OptimizedRule → List ℕ
optimized_rules_bytes rules =
    list_bytes (λ r. rule_bytes (string_bytes r.name) r.ty (optimized_expression_bytes r.expr)) rules

-- a list of names
abbrev pub names_bytes : List (Bor (List ℕ)) → List ℕ
names_bytes names = list_bytes (λ name. text_bytes name.now) names
