use Rattle.std.proofs.Common.{FitsSigned, refl, rules}
use Rattle.std.proofs.lemmas.Int.{to_z-of_z}
use Rattle.std.specs.Int.{w32}
use Rattle.base_language.specs.Language.Matching.{slice_outcome}
use Rattle.base_language.specs.Language.Meaning.{slice}
use Rattle.matcher_code.specs.Failures.{in_silence}
use Rattle.matcher_code.specs.Laid as lay
use Rattle.matcher_code.proofs.StackReads.{slice_performs}
use Rattle.matcher_sets.specs.Forms.{grammar_in}
use Rattle.matcher_compiler.specs.Names.{number_in}
use Rattle.matcher_compiler.proofs.plan.Plan.slice.Goals as goal

pub returns-clause-later : goal.returns-clause-later
returns-clause-later c = c.in_ok-operation.ensures.later c.args.program.now

pub returns-clause-lays : goal.returns-clause-lays
returns-clause-lays c = λ classes fits code laid m.
    let small : FitsSigned w32 c.args.from = search rules in
    lay.leaf (slice_outcome c.args.from c.args.to) in_silence (λ s. (slice, λ place. refl))
    (slice_performs code (number_in (grammar_in c.args.program.now)) m.fail c.args.at.label c.args.at.next c.args.at.on_fail c.args.from c.args.to
    (rw (to_z-of_z w32 c.args.from small) at (c.in_ok-operation.ensures.met c.args.program.now code laid m)))
