use Rattle.std.proofs.Common.{chars}
use Rattle.base_ast.specs.Ast.{text_of}
use Rattle.front_spanned.specs.Nodes.{view}
use Rattle.front_spanned.proofs.Walks.{waiting_on, waits_less}
use Rattle.lint_warnings.proofs.Names.{call_met}
use Rattle.lint_warnings.proofs.rules.add_calls.Goals as goal

pub loop-next-smaller : goal.loop-next-smaller
loop-next-smaller c =
    waits_less c.loop-next.stack.items c.pop.new.self.items c.push_operands.new.stack.items c.in-Some.next c.in-Some.ensures.items c.in_ok-push_operands.ensures

pub loop-next-preserved : goal.loop-next-preserved
loop-next-preserved c = λ name u.
    call_met (text_of c.args.rule.now.name) (chars name) _ _ (view c.in-Some.next.now) _ _ _
    (waiting_on c.loop-next.stack.items c.pop.new.self.items c.push_operands.new.stack.items c.in-Some.next c.in-Some.ensures.items c.in_ok-push_operands.ensures)
    (c.in_ok-add_call.ensures name u) (c.loop-next.invariant name u)
