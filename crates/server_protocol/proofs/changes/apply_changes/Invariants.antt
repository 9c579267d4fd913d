use Rattle.std.proofs.Common.{List, ℕ, drop, string_bytes}
use Rattle.server_protocol.specs.TextChanges.{AreChanged}
use Rattle.server_protocol.proofs.changes.apply_changes.Given as goal

abbrev pub invariant-loop-change : goal.invariant-loop-change
invariant-loop-change l = (final : List ℕ) → AreChanged l.encoding (string_bytes l.changed) (drop l.change-index l.changes) final → AreChanged l.encoding l.text l.changes final
