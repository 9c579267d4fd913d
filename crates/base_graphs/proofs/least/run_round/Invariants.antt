use Rattle.std.proofs.Common.{◌≡◌, ◌<◌, ℕ, true, false}
use Rattle.base_graphs.specs.Least.{unset, AreSound, IsClosedAt}
use Rattle.base_graphs.proofs.least.run_round.Given as goal

abbrev pub invariant-loop-number : goal.invariant-loop-number
invariant-loop-number g l = record {
  sound : AreSound (g.I.Inference.infers l.inference) (g.I.Inference.items l.inference) l.flags.items;
  some : l.added ≡ true → unset l.flags.items < unset l.initial.flags.items;
  none : l.added ≡ false → l.flags.items ≡ l.initial.flags.items;
  closed : l.added ≡ false → (i : ℕ) → i < l.number → IsClosedAt (g.I.Inference.infers l.inference) (g.I.Inference.items l.inference) l.initial.flags.items i;
}
