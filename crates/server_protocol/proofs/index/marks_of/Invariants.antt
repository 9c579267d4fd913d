use Rattle.std.proofs.Common.{◌≤◌, ◌*◌, length}
use Rattle.server_protocol.specs.Index.{AreMarks, IsMark}
use Rattle.server_protocol.proofs.index.marks_of.Given as goal

abbrev pub invariant-loop-count : goal.invariant-loop-count
invariant-loop-count l = record {
  mark : IsMark l.text l.mark;
  before : l.mark.offset ≤ l.count * 256;
  within : l.mark.offset ≤ length l.text;
  marks : AreMarks l.text l.marks.items;
}
