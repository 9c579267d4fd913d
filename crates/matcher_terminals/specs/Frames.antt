-- Continuation frames of the tagging of terminals.
use Rattle.std.specs.Prelude.{ℕ, ◌+◌, ◌*◌}
use Rattle.base_language.specs.Language.Expression.{Expression}
use Rattle.base_ast.specs.Frames.{joined}
use Rattle.base_ast.specs.Optimized.{optimized_expression_of}
use Rattle.base_ast.specs.OptimizedSigns.{under_sign}
use Rattle.base_ast.specs.Weight.{weight}
use Rattle.matcher_terminals.specs.Exposed.{labelled}
use Rattle.matcher_terminals.specs.declared.exposed.Unlabelled.{Unlabelled}
use Rattle.matcher_terminals.specs.declared.exposed.LabellingFrame.{LabellingFrame}
use Rattle.matcher_terminals.specs.declared.exposed.LabellingFrame.TheVariants as frame

-- the expression with its terminals tagged
abbrev pub labelled_of : Unlabelled → Expression
labelled_of u = labelled (optimized_expression_of u.expr)

-- an operand whose terminals are tagged, inside a frame
abbrev pub with_operand : LabellingFrame → Expression → Expression
with_operand frame.Tag x = x
with_operand (frame.Sign s) x = under_sign s x
with_operand (frame.First a j right) x = joined j x (labelled (optimized_expression_of right.value.value))
with_operand (frame.Second j left) x = joined j (optimized_expression_of left.value.value) x

-- a bound of the steps left
abbrev pub size_of : Unlabelled → ℕ
size_of u = 4 * weight (optimized_expression_of u.expr)

abbrev pub waits_of : LabellingFrame → ℕ
waits_of (frame.First a j right) = 4 * weight (optimized_expression_of right.value.value) + 3
waits_of f = 1
