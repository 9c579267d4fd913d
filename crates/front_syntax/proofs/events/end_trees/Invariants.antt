use Rattle.std.proofs.Common.{◌≡◌, ◌++◌, length, reverse}
use Rattle.front_syntax.specs.TokenEvents.{named_events}
use Rattle.front_syntax.specs.Writing.{closing, left_open}
use Rattle.front_syntax.proofs.events.end_trees.Given as goal

abbrev pub invariant-trees : goal.invariant-trees
invariant-trees l = record {
  events : named_events l.events.items ++ closing l.number (reverse l.pending.items) ≡ named_events l.fn.events.items ++ closing l.number (reverse l.fn.pending.items);
  pending : left_open l.number (reverse l.pending.items) ≡ left_open l.number (reverse l.fn.pending.items);
}

abbrev pub decreases-trees : goal.decreases-trees
decreases-trees l = length l.pending.items
