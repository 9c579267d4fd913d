use Rattle.std.proofs.Common.{◌≡◌, length}
use Rattle.front_stack_loops.proofs.RankLemmas.{AreRaisedTo}
use Rattle.front_stack_loops.proofs.recursion.raise_ranks.Given as goal

abbrev pub invariant-loop-place : goal.invariant-loop-place
invariant-loop-place l = record {
  alike : length l.found.items ≡ l.place;
  each : AreRaisedTo l.place l.ranks l.flags l.found.items;
}
