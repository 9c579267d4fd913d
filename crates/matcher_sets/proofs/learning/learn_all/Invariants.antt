use Rattle.matcher_sets.specs.FirstSets.{AreFirstSets}
use Rattle.matcher_sets.proofs.learning.learn_all.Given as goal

abbrev pub invariant-loop-below : goal.invariant-loop-below
invariant-loop-below l = AreFirstSets l.program l.first_sets

abbrev pub decreases-loop-below : goal.decreases-loop-below
decreases-loop-below l = l.below
