use Rattle.std.proofs.Common.{◌≡◌, ℕ, ◌<◌, ◌≤◌, Some, get_or}
use Rattle.matcher_code.specs.Lists.{lists_of}
use Rattle.matcher_code.specs.Laid.{Skips, at_label, label_for}
use Rattle.matcher_compiler.specs.Plans.{ContinuesAs}
use Rattle.matcher_compiler.proofs.columns.has_plain_labels.Given as goal

-- the labels so far
abbrev pub invariant-loop-byte : goal.invariant-loop-byte
invariant-loop-byte l = ((b : ℕ) → l.from ≤ b → b < l.to → Skips (lists_of l.code) (Some b) l.branch.second (get_or l.others b 0))
    → at_label (lists_of l.code) l.branch.first ≡ l.first → (b : ℕ) → l.from ≤ b → b < l.byte
    → ContinuesAs (lists_of l.code) l.branch (Some b) (label_for (lists_of l.code) l.branch.table (Some b))
