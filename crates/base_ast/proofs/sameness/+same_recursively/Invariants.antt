use Rattle.base_ast.specs.Sameness.{heaviness_left}
use Rattle.base_ast.proofs.sameness.+same_recursively.Given as goal

abbrev pub decreases-same_recursively : goal.decreases-same_recursively
decreases-same_recursively g l = heaviness_left g.T.Shaped.heaviness l.left.now
