use Rattle.lint_patterns.proofs.Changed.{changed}
use Rattle.lint_patterns.proofs.laws.lists_are_changed.Goals as goal

pub returns : goal.returns
returns c = λ f e h. changed f e h
