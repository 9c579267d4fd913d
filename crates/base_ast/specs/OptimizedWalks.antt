-- Views that the walks over optimized expressions use.
use Rattle.std.specs.Prelude.{List}
use Rattle.base_language.specs.Language.Expression.{Expression}
use Rattle.base_ast.specs.Ast.{text_of}
use Rattle.base_ast.specs.Optimized.{optimized_expression_of}
use Rattle.base_ast.specs.TopDownIterators.{waiting}
use Rattle.base_ast.specs.Frames as frames
use Rattle.base_ast.specs.Frames.{Unary}
use Rattle.base_ast.specs.declared.optimized.shaped.PlainSign.{PlainSign}
use Rattle.base_ast.specs.declared.optimized.shaped.PlainSign.TheVariants.{PosPred, NegPred, Opt, Rep, RepOnce, Push, NodeTag}
use Rattle.base_ast.specs.declared.optimized.walked.OptimizedExprTopDownIterator.{OptimizedExprTopDownIterator}

-- the expressions that an iterator has still to give
abbrev pub optimized_expressions_left : OptimizedExprTopDownIterator → List Expression
optimized_expressions_left i = waiting optimized_expression_of i.stack.value.items

abbrev pub optimized_unary_of : PlainSign → Unary
optimized_unary_of PosPred = frames.PosPred
optimized_unary_of NegPred = frames.NegPred
optimized_unary_of Opt = frames.Opt
optimized_unary_of Rep = frames.Rep
optimized_unary_of RepOnce = frames.RepOnce
optimized_unary_of Push = frames.Push
optimized_unary_of (NodeTag t) = frames.NodeTag (text_of t)
