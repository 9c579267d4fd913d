use Rattle.lint_patterns.proofs.SameBodies.{run_alike}
use Rattle.lint_patterns.proofs.laws.repeated_bodies_run_alike.Goals as goal

pub returns : goal.returns
returns c = run_alike
