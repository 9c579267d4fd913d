use Rattle.matcher_sets.specs.FirstSets.{AreFirstSets}
use Rattle.matcher_sets.proofs.learning.rule_first_sets.Given as goal

abbrev pub invariant-rounds : goal.invariant-rounds
invariant-rounds l = AreFirstSets l.program l.first_sets
