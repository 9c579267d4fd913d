-- Continuation frames of the conversion to optimized expressions.
use Rattle.std.specs.Prelude.{ℕ, ◌+◌, ◌*◌, ⊤}
use Rattle.base_language.specs.Language.Expression.{Expression}
use Rattle.base_ast.specs.Ast.{expression_of}
use Rattle.base_ast.specs.Frames.{joined}
use Rattle.base_ast.specs.Optimized.{optimized_expression_of}
use Rattle.base_ast.specs.OptimizedSigns.{under_sign}
use Rattle.base_ast.specs.Weight.{weight}
use Rattle.base_ast.specs.declared.ast.shaped.Sign.{Sign}
use Rattle.base_ast.specs.declared.ast.shaped.Sign.TheVariants as sign
use Rattle.front_optimizer.specs.Unrolled.{IsUnrolled}
use Rattle.front_optimizer.specs.declared.converted.ConversionFrame.{ConversionFrame}
use Rattle.front_optimizer.specs.declared.converted.ConversionFrame.TheVariants as around

-- a sign that is no counted repetition
abbrev pub IsUncounted : Sign → Type 0
IsUncounted (sign.RepExact n) = ⊥
IsUncounted (sign.RepMin m) = ⊥
IsUncounted (sign.RepMax n) = ⊥
IsUncounted (sign.RepMinMax m n) = ⊥
IsUncounted _ = ⊤

-- an operand inside a frame
abbrev pub with_operand : ConversionFrame → Expression → Expression
with_operand (around.Sign s) x = under_sign s x
with_operand (around.First j right) x = joined j x (expression_of right.value.value)
with_operand (around.Second j left) x = joined j (optimized_expression_of left.value.value) x

-- the expression that waits in a frame has no counted repetition
abbrev pub WaitsUnrolled : ConversionFrame → Type 0
WaitsUnrolled (around.First j right) = IsUnrolled (expression_of right.value.value)
WaitsUnrolled _ = ⊤

-- a bound of the steps left once the operand is converted
abbrev pub waits_of : ConversionFrame → ℕ
waits_of (around.First j right) = 4 * weight (expression_of right.value.value) + 3
waits_of _ = 1
