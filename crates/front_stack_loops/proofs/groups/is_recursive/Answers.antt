use Rattle.std.proofs.Common.{inr, sym, ◌∙◌}
use Rattle.front_stack_loops.proofs.GroupLemmas.{back_by_leader}
use Rattle.front_stack_loops.proofs.groups.is_recursive.Goals as goal

pub returns-else-leader_of-rule : goal.returns-else-leader_of-rule
returns-else-leader_of-rule c = λ h.
    back_by_leader c.args.nodes.now c.args.roots.now c.args.leaders.now c.args.reached.now c.args.returning.now c.args.rule c.requires.reached c.requires.returning
    (sym c.is_set.ensures ∙ c.if-is_set.true) (inr (sym c.is_set-else-leader_of-rule.ensures ∙ h))
