use Rattle.std.proofs.Common.{◌≡◌, ℕ, ◌<◌, ◌≤◌, Some, get_or, length}
use Rattle.matcher_code.specs.Lists.{lists_of}
use Rattle.matcher_code.specs.Laid.{Skips, at_label}
use Rattle.matcher_compiler.proofs.columns.leads_of.Given as goal

-- the labels so far
abbrev pub invariant-loop-byte : goal.invariant-loop-byte
invariant-loop-byte l = record {
  long : length l.leads ≡ 256;
  known : at_label (lists_of l.code) l.label ≡ l.here → (b : ℕ) → l.from ≤ b → b < l.byte
      → Skips (lists_of l.code) (Some b) l.label (get_or l.leads b 0);
}
