use Rattle.std.proofs.Common.{◌≡◌, length}
use Rattle.doc_pages.specs.Links.{AreCallersBelow}
use Rattle.doc_pages.proofs.callers.find_callers.Given as goal

abbrev pub invariant-loop-caller : goal.invariant-loop-caller
invariant-loop-caller l = record {
  each : length l.callers.items ≡ l.count;
  below : AreCallersBelow l.count l.callers.items;
}
