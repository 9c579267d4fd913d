use Rattle.front_stack_loops.proofs.RankLemmas.{AreSought}
use Rattle.front_stack_loops.proofs.recursion.search_calls.Given as goal

abbrev pub invariant-loop-rule : goal.invariant-loop-rule
invariant-loop-rule l = AreSought l.nodes l.roots l.rule l.recursive.items l.ranks.items
