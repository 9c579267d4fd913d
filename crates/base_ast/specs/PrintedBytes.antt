-- The bytes of the code's expressions, concatenated in the order in which they are written.
use Rattle.std.specs.Prelude.{ℕ, ℤ, Option, List, [], ◌∷◌, ◌++◌, codes, string_bytes, encode_utf8_all}
use Rattle.std.specs.List.{flat_map}
use Rattle.std.specs.declared.string.String.{String}
use Rattle.std.specs.declared.alloc.Global.{Global}
use Rattle.std.specs.Fmt.{decimal, signed_decimal}
use Rattle.base_language.specs.Language.Text.{Text}
use Rattle.base_ast.specs.Ast.{text_of}
use Rattle.base_ast.specs.Printing.{literal, bound_literal, slice_end}
use Rattle.base_ast.specs.declared.printing.Counts.{Counts}
use Rattle.base_ast.specs.declared.printing.Counts.TheVariants as counts
use Rattle.base_ast.specs.declared.ast.Expr as bare
use Rattle.base_ast.specs.declared.optimized.OptimizedExpr as optimized

-- an expression by itself, on the right of a `~` and of a `|`, and before a postfix operator
pub record ByPlace : Type 0 where
  pub alone : List ℕ
  pub after_tilde : List ℕ
  pub after_bar : List ℕ
  pub before_postfix : List ℕ

-- one text at all four positions
abbrev pub everywhere : List ℕ → ByPlace
everywhere t = record { alone = t; after_tilde = t; after_bar = t; before_postfix = t }

-- between parentheses
abbrev pub enclosed : List ℕ → List ℕ
enclosed t = codes "(" ++ t ++ codes ")"

-- a text as a literal
abbrev pub literal_bytes : String Global → List ℕ
literal_bytes s = encode_utf8_all (literal 34 (text_of s))

-- a bar and a literal
abbrev pub one_more : String Global → List ℕ
one_more s = codes " | " ++ literal_bytes s

-- literals with bars between them
abbrev pub alternatives_bytes : List (String Global) → List ℕ
alternatives_bytes [] = []
alternatives_bytes (s ∷ ss) = literal_bytes s ++ flat_map one_more ss

-- a forward search for one of the texts
abbrev pub skip_bytes : List (String Global) → List ℕ
skip_bytes ss = codes "(!(" ++ alternatives_bytes ss ++ codes ") ~ ANY)*"

-- from the first character of one text to that of the other
abbrev pub range_bytes : Text → Text → List ℕ
range_bytes t u =
    enclosed (encode_utf8_all (bound_literal t) ++ codes ".." ++ encode_utf8_all (bound_literal u))

-- a slice of the stack
abbrev pub slice_bytes : ℤ → Option ℤ → List ℕ
slice_bytes i j = codes "PEEK[" ++ signed_decimal i ++ codes ".." ++ slice_end j ++ codes "]"

-- a predicate of that sign
abbrev pub predicate_bytes : List ℕ → ByPlace → ByPlace
predicate_bytes sign x =
    let t = sign ++ x.alone in
    record { alone = t; after_tilde = t; after_bar = t; before_postfix = enclosed t }

-- one after another, and one or the other
abbrev pub sequence_bytes : ByPlace → ByPlace → ByPlace
sequence_bytes x y =
    let t = x.alone ++ codes " ~ " ++ y.after_tilde in
    record { alone = enclosed t; after_tilde = t; after_bar = enclosed t; before_postfix = enclosed t }

abbrev pub choice_bytes : ByPlace → ByPlace → ByPlace
choice_bytes x y =
    let t = x.alone ++ codes " | " ++ y.after_bar in
    record { alone = enclosed t; after_tilde = enclosed t; after_bar = t; before_postfix = enclosed t }

-- a postfix operator
abbrev pub postfix_bytes : ByPlace → List ℕ → ByPlace
postfix_bytes x sign = everywhere (x.before_postfix ++ sign)

-- how often something is repeated
abbrev pub counts_bytes : Counts → List ℕ
counts_bytes (counts.Exactly n) = codes "{" ++ decimal n ++ codes "}"
counts_bytes (counts.AtLeast m) = codes "{" ++ decimal m ++ codes ",}"
counts_bytes (counts.AtMost n) = codes "{," ++ decimal n ++ codes "}"
counts_bytes (counts.Between m n) = codes "{" ++ decimal m ++ codes ", " ++ decimal n ++ codes "}"

-- a push of a literal
abbrev pub push_literal_bytes : String Global → List ℕ
push_literal_bytes s = codes "PUSH_LITERAL(" ++ literal_bytes s ++ codes ")"

-- a tagged expression
abbrev pub tagged_bytes : List ℕ → ByPlace → ByPlace
tagged_bytes tag x = everywhere (enclosed (codes "#" ++ tag ++ codes " = " ++ x.alone))

-- a wrapper, by its operand
abbrev pub wrapper_bytes : ByPlace → ByPlace
wrapper_bytes x =
    record { alone = x.alone; after_tilde = x.alone; after_bar = x.alone; before_postfix = x.before_postfix }

-- an expression; `p` and `q` are the addresses of its boxes
abbrev pub written_bytes : bare.Expr → ByPlace
written_bytes (bare.Str s) = everywhere (literal_bytes s)
written_bytes (bare.Insens s) = everywhere (codes "^" ++ literal_bytes s)
written_bytes (bare.Range s u) = everywhere (range_bytes (text_of s) (text_of u))
written_bytes (bare.Ident s) = everywhere (string_bytes s)
written_bytes (bare.PeekSlice i j) = everywhere (slice_bytes i j)
written_bytes (bare.PosPred' p x) = predicate_bytes (codes "&") (written_bytes x)
written_bytes (bare.NegPred' p x) = predicate_bytes (codes "!") (written_bytes x)
written_bytes (bare.Seq' p x q y) = sequence_bytes (written_bytes x) (written_bytes y)
written_bytes (bare.Choice' p x q y) = choice_bytes (written_bytes x) (written_bytes y)
written_bytes (bare.Opt' p x) = postfix_bytes (written_bytes x) (codes "?")
written_bytes (bare.Rep' p x) = postfix_bytes (written_bytes x) (codes "*")
written_bytes (bare.RepOnce' p x) = postfix_bytes (written_bytes x) (codes "+")
written_bytes (bare.RepExact' p x n) = postfix_bytes (written_bytes x) (counts_bytes (counts.Exactly n))
written_bytes (bare.RepMin' p x m) = postfix_bytes (written_bytes x) (counts_bytes (counts.AtLeast m))
written_bytes (bare.RepMax' p x n) = postfix_bytes (written_bytes x) (counts_bytes (counts.AtMost n))
written_bytes (bare.RepMinMax' p x m n) = postfix_bytes (written_bytes x) (counts_bytes (counts.Between m n))
written_bytes (bare.Skip ss) = everywhere (skip_bytes ss.items)
written_bytes (bare.Push' p x) = everywhere (codes "PUSH(" ++ (written_bytes x).alone ++ codes ")")
written_bytes (bare.PushLiteral s) = everywhere (push_literal_bytes s)
written_bytes (bare.NodeTag' p x t) = tagged_bytes (string_bytes t) (written_bytes x)

-- an optimized expression
abbrev pub optimized_bytes : optimized.OptimizedExpr → ByPlace
optimized_bytes (optimized.Str s) = everywhere (literal_bytes s)
optimized_bytes (optimized.Insens s) = everywhere (codes "^" ++ literal_bytes s)
optimized_bytes (optimized.Range s u) = everywhere (range_bytes (text_of s) (text_of u))
optimized_bytes (optimized.Ident s) = everywhere (string_bytes s)
optimized_bytes (optimized.PeekSlice i j) = everywhere (slice_bytes i j)
optimized_bytes (optimized.PosPred' p x) = predicate_bytes (codes "&") (optimized_bytes x)
optimized_bytes (optimized.NegPred' p x) = predicate_bytes (codes "!") (optimized_bytes x)
optimized_bytes (optimized.Seq' p x q y) = sequence_bytes (optimized_bytes x) (optimized_bytes y)
optimized_bytes (optimized.Choice' p x q y) = choice_bytes (optimized_bytes x) (optimized_bytes y)
optimized_bytes (optimized.Opt' p x) = postfix_bytes (optimized_bytes x) (codes "?")
optimized_bytes (optimized.Rep' p x) = postfix_bytes (optimized_bytes x) (codes "*")
optimized_bytes (optimized.RepOnce' p x) = postfix_bytes (optimized_bytes x) (codes "+")
optimized_bytes (optimized.Skip ss) = everywhere (skip_bytes ss.items)
optimized_bytes (optimized.Push' p x) = everywhere (codes "PUSH(" ++ (optimized_bytes x).alone ++ codes ")")
optimized_bytes (optimized.PushLiteral s) = everywhere (push_literal_bytes s)
optimized_bytes (optimized.NodeTag' p x t) = tagged_bytes (string_bytes t) (optimized_bytes x)
optimized_bytes (optimized.RestoreOnErr' p x) = wrapper_bytes (optimized_bytes x)
