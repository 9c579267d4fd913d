use Rattle.std.proofs.Common.{◌^◌, ◌≤◌, ◌<◌, ℕ, get_or}
use Rattle.doc_diagram.specs.Spaces.{box_width}
use Rattle.doc_diagram.proofs.layout.row_extent.Given as goal

abbrev pub invariant-loop-place : goal.invariant-loop-place
invariant-loop-place l = record {
  fits : l.whole.width < 2 ^ 64;
  room : (k : ℕ) → k < l.place → box_width l.boxes (get_or l.items k 0) ≤ l.whole.width;
}
