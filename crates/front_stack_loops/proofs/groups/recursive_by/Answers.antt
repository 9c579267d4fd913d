use Rattle.front_stack_loops.proofs.GroupLemmas.{one_back}
use Rattle.front_stack_loops.proofs.groups.recursive_by.Goals as goal

pub loop-rule-preserved : goal.loop-rule-preserved
loop-rule-preserved c = one_back c.args.nodes.now c.args.roots.now c.loop-rule.rule c.loop-rule.flags.items _ c.is_recursive.result c.loop-rule.invariant c.is_recursive.ensures c.in_ok-push.ensures.items
