use Rattle.std.proofs.Common.{◌≡◌, ◌∙◌, [], true, refl, sym, subst, rules}
use Rattle.std.proofs.lemmas.List.{append-nil}
use Rattle.base_ast.specs.Ast.{expression_of}
use Rattle.front_optimizer.specs.Traversals.{AllStay}
use Rattle.front_optimizer.proofs.Staying.{WaitingStay, less_by_none, less_by_one, less_by_two, no_operands, one_operand, two_operands}
use Rattle.front_optimizer.proofs.traversal.all_stay.Goals as goal

pub nodes-init : goal.nodes-init
nodes-init g c = rw (c.in_ok-push.ensures.items, c.new-waiting.ensures.items) (λ w. w.0)

pub nodes-smaller-in-Nothing : goal.nodes-smaller-in-Nothing
nodes-smaller-in-Nothing g c = rw c.in-Some.ensures.items (less_by_none c.pop.new.self.items c.in-Some.node)

pub nodes-preserved-in-Nothing : goal.nodes-preserved-in-Nothing
nodes-preserved-in-Nothing g c =
    let p = g.P.Pass.gives c.args.pass.now in
    let stays : c.stays_at.result ≡ true = search rules in
    let here = rw stays at c.stays_at.ensures in
    no_operands p (AllStay p (expression_of c.args.expr.now)) c.pop.new.self.items c.in-Some.node here (rw c.in-Some.ensures.items at c.nodes.invariant) (rw c.in-Nothing.is at c.children_of.ensures)

pub nodes-smaller-in-Continue-branch-2 : goal.nodes-smaller-in-Continue-branch-2
nodes-smaller-in-Continue-branch-2 g c = rw (c.in-Some.ensures.items, c.in_ok-push-in-One.ensures.items) (less_by_one c.pop.new.self.items c.in-Some.node c.in-One.inner (rw c.in-One.is at c.children_of.ensures))

pub nodes-preserved-in-Continue-branch-2 : goal.nodes-preserved-in-Continue-branch-2
nodes-preserved-in-Continue-branch-2 g c =
    let p = g.P.Pass.gives c.args.pass.now in
    let stays : c.stays_at.result ≡ true = search rules in
    let here = rw stays at c.stays_at.ensures in
    rw c.in_ok-push-in-One.ensures.items (one_operand p (AllStay p (expression_of c.args.expr.now)) c.pop.new.self.items c.in-Some.node here (rw c.in-Some.ensures.items at c.nodes.invariant) c.in-One.inner (rw c.in-One.is at c.children_of.ensures))

pub nodes-smaller : goal.nodes-smaller
nodes-smaller g c = rw (c.in-Some.ensures.items, c.in_ok-push-in-Two-2.ensures.items, c.in_ok-push-in-Two.ensures.items) (less_by_two c.pop.new.self.items c.in-Some.node c.in-Two.left c.in-Two.right (rw c.in-Two.is at c.children_of.ensures))

pub nodes-preserved : goal.nodes-preserved
nodes-preserved g c =
    let p = g.P.Pass.gives c.args.pass.now in
    let stays : c.stays_at.result ≡ true = search rules in
    let here = rw stays at c.stays_at.ensures in
    rw (c.in_ok-push-in-Two-2.ensures.items, c.in_ok-push-in-Two.ensures.items) (two_operands p (AllStay p (expression_of c.args.expr.now)) c.pop.new.self.items c.in-Some.node here (rw c.in-Some.ensures.items at c.nodes.invariant) c.in-Two.left c.in-Two.right (rw c.in-Two.is at c.children_of.ensures))

pub returns : goal.returns
returns g c =
    let p = g.P.Pass.gives c.args.pass.now in
    let none_left : c.pop.new.self.items ≡ [] = c.in_default.ensures.rest ∙ rw c.in_default.ensures.cases.0 refl in
    let empty : c.nodes.waiting.items ≡ [] = c.in_default.ensures.items ∙ (append-nil c.pop.new.self.items ∙ none_left) in
    c.nodes.invariant (subst (WaitingStay p) (sym empty) tt)
