use Rattle.std.proofs.Common.{◌∙◌, sym}
use Rattle.front_spanned.specs.Nodes.{view}
use Rattle.front_spanned.proofs.Walks.{waiting_on, waits_less}
use Rattle.lint_patterns.specs.Ends.{asks_at}
use Rattle.lint_patterns.proofs.Asking.{none_met, some_popped}
use Rattle.lint_patterns.proofs.ends.asks_end.Goals as goal

pub loop-next-smaller : goal.loop-next-smaller
loop-next-smaller c =
    waits_less c.loop-next.stack.items c.pop.new.self.items c.push_operands.new.stack.items c.in-Some.next c.in-Some.ensures.items c.in_ok-push_operands.ensures

pub loop-next-preserved : goal.loop-next-preserved
loop-next-preserved c = λ f known.
    none_met (asks_at f) (view c.in-Some.next.now) _ _ _
    (waiting_on c.loop-next.stack.items c.pop.new.self.items c.push_operands.new.stack.items c.in-Some.next c.in-Some.ensures.items c.in_ok-push_operands.ensures)
    (sym (c.asks_at.ensures f known) ∙ c.if-asks_at.false) (c.loop-next.invariant f known)

pub returns-then-asks_at : goal.returns-then-asks_at
returns-then-asks_at c = λ f known.
    sym (some_popped (asks_at f) c.loop-next.stack.items c.pop.new.self.items c.in-Some.next _ c.in-Some.ensures.items (sym (c.asks_at.ensures f known) ∙ c.if-asks_at.true) (c.loop-next.invariant f known))
