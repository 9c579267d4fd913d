use Rattle.std.proofs.Common.{false, length}
use Rattle.matcher_engine.specs.Walks.{visits_left}
use Rattle.pest_test.specs.Walking.{FollowAll}
use Rattle.pest_test.proofs.agreement.agrees.Given as goal

abbrev pub invariant-visits : goal.invariant-visits
invariant-visits l =
    FollowAll l.text l.progress.rest.now l.progress.is_inside_end (visits_left l.walk)
    → FollowAll l.text l.events false (visits_left l.initial.walk)

abbrev pub decreases-visits : goal.decreases-visits
decreases-visits l = length (visits_left l.walk)
