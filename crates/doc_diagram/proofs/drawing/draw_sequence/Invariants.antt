use Rattle.std.proofs.Common.{◌≡◌}
use Rattle.doc_diagram.specs.Marks.{marks_of}
use Rattle.doc_diagram.proofs.drawing.draw_sequence.Given as goal

abbrev pub invariant-loop-child : goal.invariant-loop-child
invariant-loop-child l = marks_of l.markup.tokens.items ≡ marks_of l.fn.markup.tokens.items
