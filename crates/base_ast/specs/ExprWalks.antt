-- Views that the walks over expressions use.
use Rattle.std.specs.Prelude.{List}
use Rattle.base_language.specs.Language.Expression.{Expression}
use Rattle.base_ast.specs.Ast.{expression_of, text_of}
use Rattle.base_ast.specs.TopDownIterators.{waiting}
use Rattle.base_ast.specs.Frames as frames
use Rattle.base_ast.specs.Frames.{Unary}
use Rattle.base_ast.specs.declared.ast.shaped.Sign.{Sign}
use Rattle.base_ast.specs.declared.ast.shaped.Sign.TheVariants.{PosPred, NegPred, Opt, Rep, RepOnce, RepExact, RepMin, RepMax, RepMinMax, Push, NodeTag}
use Rattle.base_ast.specs.declared.ast.walked.ExprTopDownIterator.{ExprTopDownIterator}

-- the expressions that an iterator has still to give
abbrev pub expressions_left : ExprTopDownIterator → List Expression
expressions_left i = waiting expression_of i.stack.value.items

abbrev pub unary_of : Sign → Unary
unary_of PosPred = frames.PosPred
unary_of NegPred = frames.NegPred
unary_of Opt = frames.Opt
unary_of Rep = frames.Rep
unary_of RepOnce = frames.RepOnce
unary_of (RepExact i) = frames.RepExact i
unary_of (RepMin i) = frames.RepMin i
unary_of (RepMax i) = frames.RepMax i
unary_of (RepMinMax i j) = frames.RepMinMax i j
unary_of Push = frames.Push
unary_of (NodeTag t) = frames.NodeTag (text_of t)
