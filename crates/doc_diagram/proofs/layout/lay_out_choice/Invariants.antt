use Rattle.std.proofs.Common.{◌≡◌, ◌≤◌, ◌<◌, ℕ, get_or}
use Rattle.doc_diagram.specs.Spaces.{box_width}
use Rattle.doc_diagram.proofs.layout.lay_out_choice.Given as goal

abbrev pub invariant-loop-place : goal.invariant-loop-place
invariant-loop-place l = record {
  level : l.whole.exit_y ≡ 0;
  room : (k : ℕ) → k < l.place → box_width l.boxes (get_or l.children k 0) ≤ l.whole.width;
}
