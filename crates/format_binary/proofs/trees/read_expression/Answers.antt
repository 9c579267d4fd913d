use Rattle.std.proofs.Common.{◌≡◌, ◌+◌, arith, refl, subst, suc, sym}
use Rattle.std.proofs.lemmas.Grind.{common_steps}
use Rattle.format_binary.specs.Fronts.{ExpressionsFollow, missing}
use Rattle.format_binary.specs.Reading.{AreWithin}
use Rattle.format_binary.proofs.Missing.{after_node, first_of, missing_with, none_follow}
use Rattle.format_binary.proofs.Refused.{same_err}
use Rattle.format_binary.proofs.Within.{within_last}
use Rattle.format_binary.proofs.trees.read_expression.Goals as goal

pub nodes-preserved-in-Continue-branch-3 : goal.nodes-preserved-in-Continue-branch-3
nodes-preserved-in-Continue-branch-3 c = record {
  read = grind (arith, common_steps);
  indices = subst AreWithin (sym c.in_ok-push-in-One.ensures.items) (within_last c.nodes.waiting.items _ c.nodes.invariant.indices tt);
  left = λ x rest e.
      let old = c.nodes.waiting.items in
      let new = c.push.new.self.items in
      let f = after_node (missing old) c.nodes.input.rest.now c.read_node.new.input.rest.now rest c.in_ok-operator.field-0 c.in_ok-operator.ensures.follows (c.nodes.invariant.left x rest e) _ c.in-One.is in
      let m : missing new ≡ missing old + 0 = missing_with new old _ _ c.in_ok-push-in-One.ensures.items refl in
      let k : missing new ≡ missing old = omega (arith, m) in
      subst (λ n. ExpressionsFollow (suc n) c.read_node.new.input.rest.now rest) (sym k) f;
}

pub nodes-preserved-in-Continue-branch-4 : goal.nodes-preserved-in-Continue-branch-4
nodes-preserved-in-Continue-branch-4 c = record {
  read = grind (arith, common_steps);
  indices = subst AreWithin (sym c.in_ok-push-in-Two.ensures.items) (within_last c.nodes.waiting.items _ c.nodes.invariant.indices tt);
  left = λ x rest e.
      let old = c.nodes.waiting.items in
      let new = c.push-in-Two.new.self.items in
      let f = after_node (missing old) c.nodes.input.rest.now c.read_node.new.input.rest.now rest c.in_ok-operator.field-0 c.in_ok-operator.ensures.follows (c.nodes.invariant.left x rest e) _ c.in-Two.is in
      let m : missing new ≡ missing old + 1 = missing_with new old _ _ c.in_ok-push-in-Two.ensures.items refl in
      let k : missing new ≡ suc (missing old) = omega (arith, m) in
      subst (λ n. ExpressionsFollow (suc n) c.read_node.new.input.rest.now rest) (sym k) f;
}

pub returns-in_err-operator-clause-refused : goal.returns-in_err-operator-clause-refused
returns-in_err-operator-clause-refused c =
    same_err c.from_residual.result c.in_err-operator.field-0.0 c.from_residual.ensures.1
    (λ w b. c.in_err-operator.ensures.refused w (first_of (missing c.nodes.waiting.items) c.nodes.input.rest.now b.rest (c.nodes.invariant.left b.value b.rest b.same)))

pub returns-in-Some-clause-follows : goal.returns-in-Some-clause-follows
returns-in-Some-clause-follows c = λ x rest e.
    let m = missing c.nodes.waiting.items in
    let f = after_node m c.nodes.input.rest.now c.read_node.new.input.rest.now rest c.in_ok-operator.field-0 c.in_ok-operator.ensures.follows (c.nodes.invariant.left x rest e) _ c.in-Whole.is in
    none_follow m c.read_node.new.input.rest.now rest (rw c.in-Some.is at c.in_ok-whole-in-Whole.ensures.missing) f
