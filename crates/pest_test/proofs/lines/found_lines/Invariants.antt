use Rattle.std.proofs.Common.{length}
use Rattle.matcher_engine.specs.Walks.{visits_left}
use Rattle.pest_test.proofs.lines.found_lines.Given as goal

abbrev pub decreases-visits : goal.decreases-visits
decreases-visits l = length (visits_left l.walk)
