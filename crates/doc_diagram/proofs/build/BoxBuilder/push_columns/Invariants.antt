use Rattle.std.proofs.Common.{◌≡◌}
use Rattle.std.specs.List.{flat_map}
use Rattle.doc_diagram.specs.Marks.{box_marks}
use Rattle.doc_diagram.proofs.build.BoxBuilder.push_columns.Given as goal

abbrev pub invariant-loop-column : goal.invariant-loop-column
invariant-loop-column l = record {
  boxes : flat_map box_marks l.self.layout.boxes.items ≡ flat_map box_marks l.fn.self.layout.boxes.items;
  steps : l.self.steps.items ≡ l.fn.self.steps.items;
}
