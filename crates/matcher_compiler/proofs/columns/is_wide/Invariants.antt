use Rattle.std.proofs.Common.{◌≡◌, ℕ, ◌<◌, ◌≤◌, Some}
use Rattle.matcher_code.specs.Lists.{lists_of}
use Rattle.matcher_code.specs.Laid.{label_for}
use Rattle.matcher_compiler.proofs.columns.is_wide.Given as goal

abbrev pub invariant-loop-byte : goal.invariant-loop-byte
invariant-loop-byte l = (b : ℕ) → 128 ≤ b → b < l.byte → label_for (lists_of l.code) l.table (Some b) ≡ l.to
