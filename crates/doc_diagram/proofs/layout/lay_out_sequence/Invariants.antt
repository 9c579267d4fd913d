use Rattle.std.proofs.Common.{◌≡◌, ◌≤◌, ◌++◌, ℕ, List, [], length}
use Rattle.doc_diagram.specs.Spaces.{HasRoomFor}
use Rattle.doc_diagram.proofs.layout.lay_out_sequence.Given as goal

abbrev pub invariant-loop-row : goal.invariant-loop-row
invariant-loop-row l = (placed : List ℕ) × (l.children ≡ placed ++ l.rest) × (l.row ≤ length placed) × (l.row ≡ 0 → placed ≡ [])
    × HasRoomFor l.boxes placed l.whole.width
