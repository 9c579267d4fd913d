use Rattle.std.proofs.Common.{◌≡◌, ◌∙◌, [], refl, rules}
use Rattle.std.proofs.lemmas.List.{append-nil}
use Rattle.base_language.specs.Language.WellFormed.{CountIsReadable}
use Rattle.base_ast.specs.Ast.{expression_of}
use Rattle.front_optimizer.proofs.CountedByList.{begun, ended, refused, no_operands, one_operand, two_operands}
use Rattle.front_optimizer.proofs.Staying.{less_by_none, less_by_one, less_by_two}
use Rattle.front_optimizer.proofs.counts.is_readable_by_list.Goals as goal

pub nodes-init : goal.nodes-init
nodes-init c = rw (c.in_ok-push.ensures.items, c.new-waiting.ensures.items) (begun c.args.expr)

pub returns-then-not-has_readable_count : goal.returns-then-not-has_readable_count
returns-then-not-has_readable_count c =
    let bad : CountIsReadable (expression_of c.in-Some.node.now) → ⊥ = search rules in
    ((λ h. cc), (λ u. absurd (refused c.pop.new.self.items c.in-Some.node (rw c.in-Some.ensures.items at c.nodes.invariant) bad u)))

pub nodes-smaller-in-Nothing : goal.nodes-smaller-in-Nothing
nodes-smaller-in-Nothing c = rw c.in-Some.ensures.items (less_by_none c.pop.new.self.items c.in-Some.node)

pub nodes-preserved-in-Nothing : goal.nodes-preserved-in-Nothing
nodes-preserved-in-Nothing c =
    let good : CountIsReadable (expression_of c.in-Some.node.now) = search rules in
    no_operands c.pop.new.self.items c.in-Some.node (rw c.in-Some.ensures.items at c.nodes.invariant) good (rw c.in-Nothing.is at c.children_of.ensures)

pub nodes-smaller-in-Continue-branch-2 : goal.nodes-smaller-in-Continue-branch-2
nodes-smaller-in-Continue-branch-2 c = rw (c.in-Some.ensures.items, c.in_ok-push-in-One.ensures.items) (less_by_one c.pop.new.self.items c.in-Some.node c.in-One.inner (rw c.in-One.is at c.children_of.ensures))

pub nodes-preserved-in-Continue-branch-2 : goal.nodes-preserved-in-Continue-branch-2
nodes-preserved-in-Continue-branch-2 c =
    let good : CountIsReadable (expression_of c.in-Some.node.now) = search rules in
    rw c.in_ok-push-in-One.ensures.items (one_operand c.pop.new.self.items c.in-Some.node (rw c.in-Some.ensures.items at c.nodes.invariant) good c.in-One.inner (rw c.in-One.is at c.children_of.ensures))

pub nodes-smaller : goal.nodes-smaller
nodes-smaller c = rw (c.in-Some.ensures.items, c.in_ok-push-in-Two-2.ensures.items, c.in_ok-push-in-Two.ensures.items) (less_by_two c.pop.new.self.items c.in-Some.node c.in-Two.left c.in-Two.right (rw c.in-Two.is at c.children_of.ensures))

pub nodes-preserved : goal.nodes-preserved
nodes-preserved c =
    let good : CountIsReadable (expression_of c.in-Some.node.now) = search rules in
    rw (c.in_ok-push-in-Two-2.ensures.items, c.in_ok-push-in-Two.ensures.items) (two_operands c.pop.new.self.items c.in-Some.node (rw c.in-Some.ensures.items at c.nodes.invariant) good c.in-Two.left c.in-Two.right (rw c.in-Two.is at c.children_of.ensures))

pub returns : goal.returns
returns c =
    let none_left : c.pop.new.self.items ≡ [] = c.in_default.ensures.rest ∙ rw c.in_default.ensures.cases.0 refl in
    let empty : c.nodes.waiting.items ≡ [] = c.in_default.ensures.items ∙ (append-nil c.pop.new.self.items ∙ none_left) in
    ((λ h. ended (rw empty at c.nodes.invariant)), (λ u. refl))
