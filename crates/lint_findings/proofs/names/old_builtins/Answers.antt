use Rattle.std.proofs.Common.{refl}
use Rattle.lint_findings.specs.Names.{old_builtins}
use Rattle.lint_findings.proofs.names.old_builtins.Goals as goal

pub returns : goal.returns
unfolding old_builtins
returns c = refl
