use Rattle.std.proofs.Common.{◌+◌, ◌*◌, ◌≤◌, length}
use Rattle.base_graphs.specs.Least.{unset, AreSound}
use Rattle.base_graphs.proofs.least.spread.Given as goal

abbrev pub invariant-loop-number : goal.invariant-loop-number
invariant-loop-number g l = record {
  sound : AreSound (g.I.Inference.infers l.inference) (g.I.Inference.items l.inference) l.flags.items;
  fewer : unset l.flags.items ≤ unset l.initial.flags.items;
}

abbrev pub decreases-loop-number : goal.decreases-loop-number
decreases-loop-number g l = 2 * unset l.flags.items + length l.waiting.items

abbrev pub invariant-loop-listener : goal.invariant-loop-listener
invariant-loop-listener g l = record {
  sound : AreSound (g.I.Inference.infers l.inference) (g.I.Inference.items l.inference) l.flags.items;
  fewer : unset l.flags.items ≤ unset l.initial.flags.items;
  both : 2 * unset l.flags.items + length l.waiting.items ≤ 2 * unset l.initial.flags.items + length l.initial.waiting.items;
}
