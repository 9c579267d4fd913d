use Rattle.std.proofs.Common.{chars, refl}
use Rattle.std.specs.Char.{eq_ignore_ascii_case}
use Rattle.matcher_compiler.proofs.Growing.{later_twice}
use Rattle.matcher_code.specs.Failures.{in_silence}
use Rattle.matcher_code.specs.Laid as lay
use Rattle.matcher_code.proofs.AnyCase.{any_case_performs}
use Rattle.base_language.specs.Language.Matching.{text_outcome}
use Rattle.base_language.specs.Language.Meaning.{insens}
use Rattle.matcher_compiler.specs.Names.{number_in}
use Rattle.matcher_sets.specs.Forms.{grammar_in}
use Rattle.matcher_compiler.proofs.plan.Plan.literal_in_any_case.Goals as goal

pub returns-clause-later : goal.returns-clause-later
returns-clause-later c = later_twice c.args.program.now _ _ _ (c.in_ok-number.ensures.later c.args.program.now) (c.in_ok-operation.ensures.later c.args.program.now)

pub returns-clause-lays : goal.returns-clause-lays
returns-clause-lays c = λ classes fits code laid m.
    let m1 = (c.in_ok-operation.ensures.later c.args.program.now).met code laid m in
    lay.leaf (text_outcome eq_ignore_ascii_case (chars c.args.text.now)) in_silence (λ s. (insens, λ place. refl))
    (any_case_performs code (number_in (grammar_in c.args.program.now)) m.fail c.args.at.label c.args.at.next c.args.at.on_fail c.in_ok-number.number c.args.text.now c.utf8.text
    (c.in_ok-number.ensures.means c.args.program.now code laid m1) (c.in_ok-operation.ensures.met c.args.program.now code laid m))
