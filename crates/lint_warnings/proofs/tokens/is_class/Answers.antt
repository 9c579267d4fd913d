use Rattle.std.proofs.Common.{◌∙◌, ◌||◌, ap, sym}
use Rattle.front_spanned.specs.Nodes.{view}
use Rattle.front_spanned.proofs.Walks.{waiting_on, waits_less}
use Rattle.lint_warnings.proofs.Classes.{no_part_popped, part_met}
use Rattle.lint_warnings.proofs.tokens.is_class.Goals as goal

pub loop-next-smaller : goal.loop-next-smaller
loop-next-smaller c =
    waits_less c.loop-next.stack.items c.pop.new.self.items c.push_operands.new.stack.items c.in-Some.next c.in-Some.ensures.items c.in_ok-push_operands.ensures

pub loop-next-preserved : goal.loop-next-preserved
loop-next-preserved c = λ f known.
    part_met f (view c.in-Some.next.now) _ _ _ _ _
    (waiting_on c.loop-next.stack.items c.pop.new.self.items c.push_operands.new.stack.items c.in-Some.next c.in-Some.ensures.items c.in_ok-push_operands.ensures)
    (sym (c.is_part.ensures f known) ∙ c.if-not-is_part.false) (ap (λ b. c.loop-next.has_class || b) (c.is_class_node-has_class.ensures f known)) (c.loop-next.invariant f known)

pub returns-then-not-is_part : goal.returns-then-not-is_part
returns-then-not-is_part c = λ f known.
    sym (no_part_popped f c.loop-next.stack.items c.pop.new.self.items c.in-Some.next _ _ c.in-Some.ensures.items (sym (c.is_part.ensures f known) ∙ c.if-not-is_part.true) (c.loop-next.invariant f known))
