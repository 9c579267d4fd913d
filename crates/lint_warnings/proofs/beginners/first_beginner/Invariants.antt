use Rattle.std.proofs.Common.{length}
use Rattle.lint_warnings.proofs.beginners.first_beginner.Given as goal

abbrev pub decreases-loop-alternative : goal.decreases-loop-alternative
decreases-loop-alternative l = length l.rest.items
