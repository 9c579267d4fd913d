-- The operator over one operand of an optimized expression.
use Rattle.base_language.specs.Language.Expression.{Expression, RestoreOnErr}
use Rattle.base_ast.specs.Frames.{around}
use Rattle.base_ast.specs.OptimizedWalks.{optimized_unary_of}
use Rattle.base_ast.specs.declared.optimized.shaped.Sign.{Sign}
use Rattle.base_ast.specs.declared.optimized.shaped.Sign.TheVariants as sign

-- an operand under it
abbrev pub under_sign : Sign → Expression → Expression
under_sign (sign.Plain s) x = around (optimized_unary_of s) x
under_sign sign.Wrapper x = RestoreOnErr x
