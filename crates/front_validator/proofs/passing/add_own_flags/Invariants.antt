use Rattle.std.proofs.Common.{◌≡◌, ◌+◌, ◌-◌, ◌<◌, ◌≤◌, ℕ, List, length, vec_len}
use Rattle.base_graphs.specs.Least.{is_set_at}
use Rattle.front_spanned.specs.declared.node.ParserRule.{ParserRule}
use Rattle.front_analysis.specs.Facts.{AreFacts}
use Rattle.front_validator.specs.Regions.{ArePassingSoFar}
use Rattle.front_analysis.specs.Roots.{first_of}
use Rattle.front_validator.proofs.passing.add_own_flags.Given as goal

abbrev pub invariant-loop-flags : goal.invariant-loop-flags
invariant-loop-flags l = record {
  grown : length l.fn.flags.items ≤ length l.flags.items;
  within : length l.fn.flags.items ≤ l.root + 1 → length l.flags.items ≤ l.root + 1;
  kept : (i : ℕ) → i < length l.fn.flags.items → is_set_at l.flags.items i ≡ is_set_at l.fn.flags.items i;
  right : (rules : List ParserRule) → AreFacts rules l.facts → length l.fn.flags.items ≡ first_of l.facts.table.roots.items l.rule
      → ArePassingSoFar rules l.facts.table.roots.items l.flags.items l.rule;
}

abbrev pub decreases-loop-flags : goal.decreases-loop-flags
decreases-loop-flags l = (l.root + 1) - vec_len l.flags
