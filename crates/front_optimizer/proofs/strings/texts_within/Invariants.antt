use Rattle.std.proofs.Common.{map}
use Rattle.base_language.specs.Language.Expression.{Grammar}
use Rattle.base_ast.specs.Ast.{expression_of, text_of}
use Rattle.front_optimizer.specs.Bodies.{HoldsBodies, HasStrings}
use Rattle.front_optimizer.proofs.Telling.{Telling, total}
use Rattle.front_optimizer.proofs.strings.texts_within.Given as goal

abbrev pub invariant-parts : goal.invariant-parts
invariant-parts l = (g : Grammar) → HoldsBodies l.bodies g → HasStrings g l.fn.names (expression_of l.fn.expr)
    → Telling g (expression_of l.fn.expr) (map text_of l.texts.items) l.parts.items

abbrev pub decreases-parts : goal.decreases-parts
decreases-parts l = total l.bodies l.parts.items
