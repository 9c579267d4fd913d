use Rattle.std.proofs.Common.{◌≡◌, ◌∙◌, ◌+◌, [], ap, arith, refl, rules, subst, sym}
use Rattle.std.proofs.lemmas.Grind.{common_steps}
use Rattle.format_binary.specs.Fronts.{missing}
use Rattle.format_binary.specs.Indices.{HasIndices}
use Rattle.format_binary.specs.Reading.{AreWithin, IsOperatorWithin}
use Rattle.format_binary.proofs.Missing.{missing_with}
use Rattle.format_binary.proofs.Within.{within_last, within_parts}
use Rattle.format_binary.proofs.trees.close.Goals as goal

pub operators-preserved-in-One : goal.operators-preserved-in-One
operators-preserved-in-One c = record {
  bytes = grind (arith, common_steps);
  indices = λ w i.
      let old = c.operators.invariant.indices w i in
      let parts = within_parts c.pop.new.self.items c.in-Some.operator (subst AreWithin c.in-Some.ensures.items old.0) in
      let same = ap (λ b. b.value) c.into_inner.ensures ∙ c.in_ok-inner.ensures in
      (parts.0, c.around.ensures.indices (subst HasIndices (sym same) old.1));
  missing =
      let m : missing c.operators.waiting.items ≡ missing c.pop.new.self.items + 0 = missing_with c.operators.waiting.items c.pop.new.self.items c.in-Some.operator _ c.in-Some.ensures.items c.in-One.is in
      omega (arith, c.operators.invariant.missing, m);
}

pub returns-in-First-clause-indices : goal.returns-in-First-clause-indices
returns-in-First-clause-indices c = λ w i.
    let old = c.operators.invariant.indices w i in
    let parts = within_parts c.pop.new.self.items c.in-Some.operator (subst AreWithin c.in-Some.ensures.items old.0) in
    subst AreWithin (sym c.in_ok-push-in-First.ensures.items) (within_last c.pop.new.self.items _ parts.0 (subst HasIndices (sym c.in_ok-inner.ensures) old.1))

pub operators-preserved : goal.operators-preserved
operators-preserved c = record {
  bytes = grind (arith, common_steps);
  indices = λ w i.
      let old = c.operators.invariant.indices w i in
      let parts = within_parts c.pop.new.self.items c.in-Some.operator (subst AreWithin c.in-Some.ensures.items old.0) in
      let first = subst IsOperatorWithin c.in-Second.is parts.1 in
      let left = ap (λ b. b.value) c.into_inner-in-Second.ensures in
      let right = ap (λ b. b.value) c.into_inner-in-Second-2.ensures ∙ c.in_ok-inner.ensures in
      (parts.0, c.between.ensures.indices (subst HasIndices (sym left) first) (subst HasIndices (sym right) old.1));
  missing =
      let m : missing c.operators.waiting.items ≡ missing c.pop.new.self.items + 0 = missing_with c.operators.waiting.items c.pop.new.self.items c.in-Some.operator _ c.in-Some.ensures.items c.in-Second.is in
      omega (arith, c.operators.invariant.missing, m);
}

pub returns-in-First-clause-missing : goal.returns-in-First-clause-missing
returns-in-First-clause-missing c =
    let m : missing c.operators.waiting.items ≡ missing c.pop.new.self.items + 1 = missing_with c.operators.waiting.items c.pop.new.self.items c.in-Some.operator _ c.in-Some.ensures.items c.in-First.is in
    let k : missing c.push.new.self.items ≡ missing c.pop.new.self.items + 0 = missing_with c.push.new.self.items c.pop.new.self.items _ _ c.in_ok-push-in-First.ensures.items refl in
    omega (arith, c.operators.invariant.missing, m, k)

pub returns-clause-missing : goal.returns-clause-missing
returns-clause-missing c =
    let e : c.operators.waiting.items ≡ [] = search rules in
    c.operators.invariant.missing ∙ ap missing e
