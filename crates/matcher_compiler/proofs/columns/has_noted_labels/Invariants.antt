use Rattle.std.proofs.Common.{◌≡◌, ℕ, ◌<◌, ◌≤◌, Some, get_or, Option, true}
use Rattle.matcher_code.specs.Lists.{lists_of}
use Rattle.matcher_code.specs.Laid.{Notes, Skips, at_label, label_for}
use Rattle.matcher_compiler.specs.Plans.{ContinuesAs}
use Rattle.matcher_compiler.proofs.columns.has_noted_labels.Given as goal

-- the labels so far; and the label that was seen last is noted
abbrev pub invariant-loop-byte : goal.invariant-loop-byte
invariant-loop-byte l = record {
  labels : ((b : ℕ) → l.from ≤ b → b < l.to → Skips (lists_of l.code) (Some b) l.branch.second (get_or l.others b 0))
      → at_label (lists_of l.code) l.branch.first ≡ l.first → (b : ℕ) → l.from ≤ b → b < l.byte
      → ContinuesAs (lists_of l.code) l.branch (Some b) (label_for (lists_of l.code) l.branch.table (Some b));
  seen : l.is_seen ≡ true → (first_set : Option ℕ) → Skips (lists_of l.code) first_set l.branch.second l.seen_next
      → Notes (lists_of l.code) first_set l.branch.second l.branch.next l.branch.on_fail l.seen_to;
}
