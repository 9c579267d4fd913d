use Rattle.std.proofs.Common.{◌∙◌, sym}
use Rattle.front_spanned.specs.Nodes.{view}
use Rattle.front_spanned.proofs.Walks.{waiting_on, waits_less}
use Rattle.lint_warnings.proofs.Names.{end_popped, no_end_met}
use Rattle.lint_warnings.proofs.rules.is_start.Goals as goal

pub loop-next-smaller : goal.loop-next-smaller
loop-next-smaller c =
    waits_less c.loop-next.stack.items c.pop.new.self.items c.push_operands.new.stack.items c.in-Some.next c.in-Some.ensures.items c.in_ok-push_operands.ensures

pub loop-next-preserved : goal.loop-next-preserved
loop-next-preserved c =
    no_end_met (view c.in-Some.next.now) _ _ _
    (waiting_on c.loop-next.stack.items c.pop.new.self.items c.push_operands.new.stack.items c.in-Some.next c.in-Some.ensures.items c.in_ok-push_operands.ensures)
    (sym c.is_end.ensures ∙ c.if-is_end.false) c.loop-next.invariant

pub returns-then-is_end : goal.returns-then-is_end
returns-then-is_end c = sym (end_popped c.loop-next.stack.items c.pop.new.self.items c.in-Some.next _ c.in-Some.ensures.items (sym c.is_end.ensures ∙ c.if-is_end.true) c.loop-next.invariant)
