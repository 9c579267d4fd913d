use Rattle.std.proofs.Common.{subst, sym}
use Rattle.matcher_code.specs.Laid.{IsTight}
use Rattle.matcher_sets.specs.Modes.{mode_of}
use Rattle.matcher_sets.specs.Forms.{grammar_in}
use Rattle.matcher_compiler.specs.Plans.{SkipsAs}
use Rattle.matcher_compiler.proofs.Skipping.{tight_atomic, tight_compound}
use Rattle.matcher_compiler.proofs.plan.Plan.is_tight.Goals as goal

pub returns-in-Nothing-clause-tight : goal.returns-in-Nothing-clause-tight
returns-in-Nothing-clause-tight c = λ e p ready classes.
    let r = subst (λ b. SkipsAs p c.args.self.now.sets b) c.in-Nothing.is ready in
    subst (λ m. IsTight (grammar_in p) classes (mode_of m)) (sym c.in-NonAtomic.is) (r classes)

pub returns-in-Atomic-clause-tight : goal.returns-in-Atomic-clause-tight
returns-in-Atomic-clause-tight c = λ e p ready classes.
    subst (λ m. IsTight (grammar_in p) classes (mode_of m)) (sym c.in-Atomic.is) (tight_atomic (grammar_in p) classes)

pub returns-in-CompoundAtomic-clause-tight : goal.returns-in-CompoundAtomic-clause-tight
returns-in-CompoundAtomic-clause-tight c = λ e p ready classes.
    subst (λ m. IsTight (grammar_in p) classes (mode_of m)) (sym c.in-CompoundAtomic.is) (tight_compound (grammar_in p) classes)
