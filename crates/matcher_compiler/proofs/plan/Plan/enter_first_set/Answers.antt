use Rattle.std.proofs.Common.{inl, refl, subst}
use Rattle.std.specs.Prelude.{IfSome}
use Rattle.matcher_compiler.specs.Plans.{FailsWithout}
use Rattle.matcher_compiler.proofs.Growing.{later_same}
use Rattle.matcher_compiler.proofs.plan.Plan.enter_first_set.Goals as goal

pub returns-in_ok-first-in-Some-clause-later : goal.returns-in_ok-first-in-Some-clause-later
returns-in_ok-first-in-Some-clause-later c = c.in_ok-first-in-Some.ensures.later

pub returns-in_ok-first-in-Some-clause-enters : goal.returns-in_ok-first-in-Some-clause-enters
returns-in_ok-first-in-Some-clause-enters c = λ p k fails.
    c.in_ok-first-in-Some.ensures.enters p k (subst (λ h. IfSome h (FailsWithout p k)) c.in-Some.is fails)

pub returns-in-None-clause-later : goal.returns-in-None-clause-later
returns-in-None-clause-later c = λ p. later_same p c.args.self.now

pub returns-in-None-clause-enters : goal.returns-in-None-clause-enters
returns-in-None-clause-enters c = λ p k fails classes fits code laid m. inl refl
