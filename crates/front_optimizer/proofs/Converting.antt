-- What stands in an expression that has no counted repetition.
use Rattle.base_language.specs.Language.Expression.{Expression}
use Rattle.base_ast.specs.ExprWalks.{unary_of}
use Rattle.base_ast.specs.Frames.{around}
use Rattle.base_ast.specs.declared.ast.shaped.Sign.{Sign}
use Rattle.base_ast.specs.declared.ast.shaped.Sign.TheVariants as sign
use Rattle.front_optimizer.specs.Converting.{IsUncounted}
use Rattle.front_optimizer.specs.Unrolled.{IsUnrolled}

pub uncounted : (s : Sign) (x : Expression) → IsUnrolled (around (unary_of s) x) → IsUncounted s × IsUnrolled x
uncounted sign.PosPred x h = (tt, h)
uncounted sign.NegPred x h = (tt, h)
uncounted sign.Opt x h = (tt, h)
uncounted sign.Rep x h = (tt, h)
uncounted sign.RepOnce x h = (tt, h)
uncounted (sign.RepExact n) x h = absurd h
uncounted (sign.RepMin m) x h = absurd h
uncounted (sign.RepMax n) x h = absurd h
uncounted (sign.RepMinMax m n) x h = absurd h
uncounted sign.Push x h = (tt, h)
uncounted (sign.NodeTag t) x h = (tt, h)
