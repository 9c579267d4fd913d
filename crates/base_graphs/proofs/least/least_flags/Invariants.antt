use Rattle.base_graphs.specs.Least.{unset, AreSound}
use Rattle.base_graphs.proofs.least.least_flags.Given as goal

abbrev pub invariant-loop-waiting : goal.invariant-loop-waiting
invariant-loop-waiting g l = AreSound (g.I.Inference.infers l.inference) (g.I.Inference.items l.inference) l.flags.items

abbrev pub decreases-loop-waiting : goal.decreases-loop-waiting
decreases-loop-waiting g l = unset l.flags.items
