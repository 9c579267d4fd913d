use Rattle.std.proofs.Common.{subst, sym}
use Rattle.matcher_program.specs.Compiled.{Compiles}
use Rattle.matcher_program.proofs.forms.in_place.Goals as goal

pub returns-in_ok-into_box-in_default-clause-same : goal.returns-in_ok-into_box-in_default-clause-same
returns-in_ok-into_box-in_default-clause-same c = λ g ps e h.
    subst (Compiles g ps e) (sym c.in_ok-into_box-in_default.ensures) (c.in_ok-value-in_default.ensures g ps e h)
