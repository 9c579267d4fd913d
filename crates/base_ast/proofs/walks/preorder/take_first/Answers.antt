use Rattle.std.proofs.Common.{◌≡◌, ap, sym, ◌∙◌}
use Rattle.base_language.proofs.PairLemmas.{on_err}
use Rattle.base_ast.specs.Operands.{operands}
use Rattle.base_ast.proofs.Waiting.{some_waits, leaf_first, one_first, two_first}
use Rattle.base_ast.proofs.walks.preorder.take_first.Goals as goal
use Rattle.base_ast.proofs.walks.preorder.take_first.Goals.{in-Leaf, in-One+in_ok-push-in-One, in-Two+in_ok-push-in-Two+in_ok-push-in-Two-2}

pub returns-in_err-copy-clause-some : goal.returns-in_err-copy-clause-some
returns-in_err-copy-clause-some g c =
    on_err _ (some_waits g.E.Tree.says c.args.stack.now.value.items c.pop.new.self.items c.in-Some.expr c.in-Some.ensures.items)

pub returns-in_err-push-in-One-clause-some : goal.returns-in_err-push-in-One-clause-some
returns-in_err-push-in-One-clause-some g c =
    on_err _ (some_waits g.E.Tree.says c.args.stack.now.value.items c.pop.new.self.items c.in-Some.expr c.in-Some.ensures.items)

pub returns-in_err-push-in-Two-clause-some : goal.returns-in_err-push-in-Two-clause-some
returns-in_err-push-in-Two-clause-some g c =
    on_err _ (some_waits g.E.Tree.says c.args.stack.now.value.items c.pop.new.self.items c.in-Some.expr c.in-Some.ensures.items)

pub returns-in_err-push-in-Two-2-clause-some : goal.returns-in_err-push-in-Two-2-clause-some
returns-in_err-push-in-Two-2-clause-some g c =
    on_err _ (some_waits g.E.Tree.says c.args.stack.now.value.items c.pop.new.self.items c.in-Some.expr c.in-Some.ensures.items)

pub returns-clause-given : goal.returns-clause-given
returns-clause-given g c =
    let says = g.E.Tree.says in
    let stack = c.args.stack.now.value.items in
    let rest = c.pop.new.self.items in
    let copy = c.into_inner-2.result in
    let copied : says copy ≡ says c.in-Some.expr = ap says c.into_inner-2.ensures ∙ c.in_ok-copy.ensures in
    let opened : says c.into_inner.result ≡ says c.in-Some.expr = ap says c.into_inner.ensures in
    elim c.match-open.branch [
      | in-Leaf w ↦ rw w.stack-is (leaf_first says stack rest c.in-Some.expr copy c.in-Some.ensures.items copied (ap operands (sym opened) ∙ w.in-Leaf.ensures.1))
      | in-One+in_ok-push-in-One w ↦ rw w.stack-is (one_first says stack rest w.push.new.self.value.items (g.E.Tree.stands_for w.in-One.sign) c.in-Some.expr copy w.in-One.operand.value c.in-Some.ensures.items copied (sym opened ∙ w.in-One.ensures) (rw w.into_inner-in-One.ensures at w.in_ok-push-in-One.ensures.pushed))
      | in-Two+in_ok-push-in-Two+in_ok-push-in-Two-2 w ↦ rw w.stack-is (two_first says stack rest w.push-in-Two.new.self.value.items w.push-in-Two-2.new.self.value.items w.in-Two.joint c.in-Some.expr copy w.in-Two.left.value w.in-Two.right.value c.in-Some.ensures.items copied (sym opened ∙ w.in-Two.ensures) (rw w.into_inner-in-Two-2.ensures at w.in_ok-push-in-Two.ensures.pushed) (rw w.into_inner-in-Two.ensures at w.in_ok-push-in-Two-2.ensures.pushed))
    ]
