use Rattle.base_language.specs.Language.State.{NonAtomicMode}
use Rattle.base_language.proofs.Termination.{ends}
use Rattle.matcher_engine.proofs.laws.plain_rules_have_outcomes.Goals as goal

pub returns : goal.returns
returns start g ps classes fits counted formed plain n r defined s =
    let d = ends g classes n r NonAtomicMode s counted formed plain defined in
    record { classes = classes; fits = fits; outcome = d.0; found = d.1 }
