use Rattle.lint_warnings.proofs.Called.{called_to, called_from}
use Rattle.lint_warnings.proofs.laws.called_rules_are_called.Goals as goal

pub returns : goal.returns
returns c = λ rules n. (called_to rules n, called_from rules n)
