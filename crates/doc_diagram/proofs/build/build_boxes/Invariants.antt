use Rattle.std.proofs.Common.{◌≡◌, ◌++◌}
use Rattle.std.specs.HashMap.{get_by_text}
use Rattle.std.specs.List.{flat_map}
use Rattle.doc_diagram.specs.Marks.{box_marks, diagram_marks}
use Rattle.doc_diagram.specs.Steps.{in_turn, load}
use Rattle.doc_diagram.proofs.build.build_boxes.Given as goal

abbrev pub invariant-loop-step : goal.invariant-loop-step
invariant-loop-step l =
    flat_map box_marks l.builder.layout.boxes.items ++ in_turn (get_by_text l.rules) l.builder.steps.items
    ≡ diagram_marks (get_by_text l.rules) l.expr

abbrev pub decreases-loop-step : goal.decreases-loop-step
decreases-loop-step l = load l.builder.steps.items
