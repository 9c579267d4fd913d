use Rattle.std.proofs.Common.{◌≡◌, ℕ, ◌<◌, length}
use Rattle.doc_pages.specs.Links.{AreCallersBelow}
use Rattle.doc_pages.proofs.callers.add_calls.Given as goal

abbrev pub invariant-loop-part : goal.invariant-loop-part
invariant-loop-part l = record {
  each : length l.callers.items ≡ length l.fn.callers.items;
  below : (n : ℕ) → l.caller < n → AreCallersBelow n l.fn.callers.items → AreCallersBelow n l.callers.items;
}
