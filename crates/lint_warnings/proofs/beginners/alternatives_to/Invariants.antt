use Rattle.std.proofs.Common.{length}
use Rattle.front_spanned.specs.Walk.{waiting}
use Rattle.lint_warnings.proofs.beginners.alternatives_to.Given as goal

abbrev pub decreases-loop-next : goal.decreases-loop-next
decreases-loop-next l = length (waiting l.stack.items)
