use Rattle.std.proofs.Common.{◌∙◌, sym}
use Rattle.base_ast.specs.Ast.{expression_of}
use Rattle.lint_patterns.specs.Rewritten.{is_list}
use Rattle.lint_patterns.proofs.Walks.{left_less, left_on, none_met, some_popped}
use Rattle.lint_patterns.proofs.lists.has_list.Goals as goal

pub loop-next-smaller : goal.loop-next-smaller
loop-next-smaller c =
    left_less c.loop-next.stack.items c.pop.new.self.items c.push_operands.new.stack.items c.in-Some.next c.in-Some.ensures.items c.in_ok-push_operands.ensures

pub loop-next-preserved : goal.loop-next-preserved
loop-next-preserved c = λ f known.
    none_met (is_list f) (expression_of c.in-Some.next.now) _ _ _
    (left_on c.loop-next.stack.items c.pop.new.self.items c.push_operands.new.stack.items c.in-Some.next c.in-Some.ensures.items c.in_ok-push_operands.ensures)
    (sym (c.is_list.ensures f known) ∙ c.if-is_list.false) (c.loop-next.invariant f known)

pub returns-then-is_list : goal.returns-then-is_list
returns-then-is_list c = λ f known.
    sym (some_popped (is_list f) c.loop-next.stack.items c.pop.new.self.items c.in-Some.next _ c.in-Some.ensures.items (sym (c.is_list.ensures f known) ∙ c.if-is_list.true) (c.loop-next.invariant f known))
