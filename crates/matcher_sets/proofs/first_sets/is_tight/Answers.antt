use Rattle.std.proofs.Common.{refl, subst, sym}
use Rattle.base_language.specs.Language.Meaning as by
use Rattle.matcher_code.specs.Laid.{IsTight}
use Rattle.matcher_sets.specs.Modes.{mode_of}
use Rattle.matcher_sets.proofs.first_sets.is_tight.Goals as goal

pub returns-in-Atomic-clause-tight : goal.returns-in-Atomic-clause-tight
returns-in-Atomic-clause-tight c = λ e g classes. subst (λ m. IsTight g classes (mode_of m)) (sym c.in-Atomic.is) (λ s. (by.atomic, λ place. refl))

pub returns-in-CompoundAtomic-clause-tight : goal.returns-in-CompoundAtomic-clause-tight
returns-in-CompoundAtomic-clause-tight c = λ e g classes. subst (λ m. IsTight g classes (mode_of m)) (sym c.in-CompoundAtomic.is) (λ s. (by.compound_atomic, λ place. refl))
