-- The context of an operand that is copied without spans.
use Rattle.std.specs.Prelude.{ℕ, ◌+◌, ◌*◌}
use Rattle.base_language.specs.Language.Expression.{Expression}
use Rattle.base_ast.specs.Ast.{expression_of}
use Rattle.base_ast.specs.Weight.{weight}
use Rattle.front_spanned.specs.Erasure.{round, between, without_spans}
use Rattle.front_spanned.specs.Nodes.{view}
use Rattle.front_spanned.specs.Shapes.{unary_of, binary_of}
use Rattle.front_spanned.specs.declared.copies.CopyContext.{CopyContext}
use Rattle.front_spanned.specs.declared.copies.CopyContext.TheVariants as around

-- an operand inside it
abbrev pub with_operand : CopyContext → Expression → Expression
with_operand (around.Sign s) x = round (unary_of s) x
with_operand (around.First j right) x = between (binary_of j) x (without_spans (view right.now))
with_operand (around.Second j left) x = between (binary_of j) (expression_of left.value.value) x

-- how much there is to be done once the operand is made
abbrev pub waits_of : CopyContext → ℕ
waits_of (around.First j right) = 4 * weight (without_spans (view right.now)) + 3
waits_of _ = 1
