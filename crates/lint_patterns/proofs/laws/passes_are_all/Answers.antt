use Rattle.lint_patterns.proofs.Passing.{all_passes}
use Rattle.lint_patterns.proofs.laws.passes_are_all.Goals as goal

pub returns : goal.returns
returns c = λ g y e a b rotates free h bare. all_passes g y e a b rotates free h bare
