-- The operands of an expression, as code has them.
use Rattle.std.specs.Prelude.{List, [], ◌∷◌}
use Rattle.base_language.specs.Language.Expression.{Expression}
use Rattle.base_ast.specs.Ast.{expression_of}
use Rattle.front_optimizer.specs.declared.traversal.Children.{Children}
use Rattle.front_optimizer.specs.declared.traversal.Children.TheVariants as held

abbrev pub said_of : Children → List Expression
said_of held.Nothing = []
said_of (held.One a) = expression_of a.now ∷ []
said_of (held.Two a b) = expression_of a.now ∷ (expression_of b.now ∷ [])
