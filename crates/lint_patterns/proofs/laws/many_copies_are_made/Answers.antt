use Rattle.lint_patterns.proofs.Written.{many_are_made}
use Rattle.lint_patterns.proofs.laws.many_copies_are_made.Goals as goal

pub returns : goal.returns
returns c = λ body. many_are_made body
