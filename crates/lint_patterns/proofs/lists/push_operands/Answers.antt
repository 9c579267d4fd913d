use Rattle.std.proofs.Common.{inl, inr, ap}
use Rattle.base_ast.specs.Ast.{expression_of}
use Rattle.lint_patterns.proofs.Walks.{choice_left, seq_left}
use Rattle.lint_patterns.proofs.lists.push_operands.Goals as goal

pub returns-in_ok-push-in-Seq-2 : goal.returns-in_ok-push-in-Seq-2
returns-in_ok-push-in-Seq-2 c =
    let whole = expression_of c.args.expr.now in
    elim c.in-Seq.is [
      | inl e ↦ seq_left whole c.args.stack.now.items c.push.new.self.items c.push-in-Seq.new.self.items c.deref-in-Seq.result c.deref.result
          (rw (c.deref-in-Seq.ensures, c.deref.ensures) (ap expression_of e)) c.in_ok-push-in-Seq.ensures.items c.in_ok-push-in-Seq-2.ensures.items
      | inr e ↦ choice_left whole c.args.stack.now.items c.push.new.self.items c.push-in-Seq.new.self.items c.deref-in-Seq.result c.deref.result
          (rw (c.deref-in-Seq.ensures, c.deref.ensures) (ap expression_of e)) c.in_ok-push-in-Seq.ensures.items c.in_ok-push-in-Seq-2.ensures.items
    ]
