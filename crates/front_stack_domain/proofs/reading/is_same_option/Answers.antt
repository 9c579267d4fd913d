use Rattle.std.proofs.Common.{◌≡◌, ◌∙◌, sym, ap, subst, Some, true}
use Rattle.front_stack_domain.specs.Stack.{stack_eq}
use Rattle.front_stack_domain.specs.Views.{possible, stack_of}
use Rattle.front_stack_domain.proofs.Stacks.{stacks_same}
use Rattle.front_stack_domain.proofs.Turning.{stack_itself}
use Rattle.front_stack_domain.proofs.reading.is_same_option.Goals as goal

pub returns-in-Some-Some-clause-same : goal.returns-in-Some-Some-clause-same
returns-in-Some-Some-clause-same c = λ t. ap possible c.in-Some-Some.is-0 ∙ (ap Some (stacks_same _ _ (sym c.is_same.ensures ∙ t)) ∙ sym (ap possible c.in-Some-Some.is-1))

pub returns-in-Some-Some-clause-other : goal.returns-in-Some-Some-clause-other
returns-in-Some-Some-clause-other c = λ e.
    let a = stack_of c.in-Some-Some.first in
    let b = stack_of c.in-Some-Some.second in
    let both : Some a ≡ Some b = sym (ap possible c.in-Some-Some.is-0) ∙ (e ∙ ap possible c.in-Some-Some.is-1) in
    let same : a ≡ b = cc in
    c.is_same.ensures ∙ subst (λ x. stack_eq a x ≡ true) same (stack_itself a)
