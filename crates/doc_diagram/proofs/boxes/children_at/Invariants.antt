use Rattle.std.proofs.Common.{◌≡◌, map, take}
use Rattle.std.specs.List.{flat_map}
use Rattle.doc_diagram.specs.Spaces.{placed_box}
use Rattle.doc_diagram.proofs.boxes.children_at.Given as goal

abbrev pub invariant-loop-index : goal.invariant-loop-index
invariant-loop-index l =
    map (λ child. (child.0.now, child.1)) l.children.items
    ≡ flat_map (placed_box l.boxes l.entries) (take l.index-index l.parent.children.items)
