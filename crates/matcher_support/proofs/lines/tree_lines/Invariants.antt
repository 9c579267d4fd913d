use Rattle.std.proofs.Common.{◌≡◌, ◌++◌, length, string_bytes}
use Rattle.matcher_engine.specs.Walks.{visits_left}
use Rattle.matcher_support.specs.Lines.{flat}
use Rattle.matcher_support.proofs.lines.tree_lines.Given as goal

abbrev pub invariant-visits : goal.invariant-visits
invariant-visits l = string_bytes l.lines ++ flat (visits_left l.walk) ≡ flat (visits_left l.initial.walk)

abbrev pub decreases-visits : goal.decreases-visits
decreases-visits l = length (visits_left l.walk)
