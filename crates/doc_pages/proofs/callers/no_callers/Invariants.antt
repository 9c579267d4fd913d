use Rattle.std.proofs.Common.{◌≡◌, ℕ, length}
use Rattle.doc_pages.specs.Links.{AreCallersBelow}
use Rattle.doc_pages.proofs.callers.no_callers.Given as goal

abbrev pub invariant-loop-rule : goal.invariant-loop-rule
invariant-loop-rule l = record {
  each : length l.callers.items ≡ l._rule;
  below : (n : ℕ) → AreCallersBelow n l.callers.items;
}
