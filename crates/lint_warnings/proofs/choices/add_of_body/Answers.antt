use Rattle.front_spanned.specs.Nodes.{view}
use Rattle.front_spanned.proofs.Walks.{waiting_on, waits_less, walk_step}
use Rattle.lint_warnings.specs.Choices.{choices_in_parts}
use Rattle.lint_warnings.proofs.choices.add_of_body.Goals as goal

pub loop-next-smaller : goal.loop-next-smaller
loop-next-smaller c =
    waits_less c.loop-next.stack.items c.pop.new.self.items c.push_operands.new.stack.items c.in-Some.next c.in-Some.ensures.items c.in_ok-push_operands.ensures

pub loop-next-preserved : goal.loop-next-preserved
loop-next-preserved c =
    walk_step choices_in_parts _ _ _ _ _ (view c.in-Some.next.now) c.in_ok-add_of_parts.ensures
    (waiting_on c.loop-next.stack.items c.pop.new.self.items c.push_operands.new.stack.items c.in-Some.next c.in-Some.ensures.items c.in_ok-push_operands.ensures)
    c.loop-next.invariant
