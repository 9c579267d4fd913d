use Rattle.std.proofs.Common.{◌^◌, ◌≤◌, ◌<◌, ℕ, get_or}
use Rattle.doc_diagram.specs.Spaces.{box_width}
use Rattle.doc_diagram.proofs.layout.lay_out_columns.Given as goal

abbrev pub invariant-loop-index : goal.invariant-loop-index
invariant-loop-index l = record {
  fits : l.x < 2 ^ 64;
  room : (k : ℕ) → k < l.index-index → box_width l.boxes (get_or l.children k 0) ≤ l.x;
}
