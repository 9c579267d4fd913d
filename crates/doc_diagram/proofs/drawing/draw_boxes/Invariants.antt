use Rattle.std.proofs.Common.{◌≡◌, ◌++◌, take}
use Rattle.std.specs.List.{flat_map}
use Rattle.doc_diagram.specs.Marks.{box_marks, marks_of}
use Rattle.doc_diagram.proofs.drawing.draw_boxes.Given as goal

abbrev pub invariant-loop-index : goal.invariant-loop-index
invariant-loop-index l =
    marks_of l.markup.tokens.items ≡ marks_of l.fn.markup.tokens.items ++ flat_map box_marks (take l.index l.layout.boxes.items)
