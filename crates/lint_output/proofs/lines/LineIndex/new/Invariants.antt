use Rattle.std.proofs.Common.{◌≡◌}
use Rattle.lint_output.specs.Locations.{AreCheckpoints, location_at}
use Rattle.lint_output.proofs.lines.LineIndex.new.Given as goal

abbrev pub invariant-loop-at : goal.invariant-loop-at
invariant-loop-at l = record {
  here : l.location ≡ location_at l.bytes l.at;
  so_far : AreCheckpoints l.bytes l.at l.checkpoints.items;
}
