use Rattle.base_language.specs.Language.Matching.{character_outcome}
use Rattle.matcher_code.specs.Failures.{in_silence}
use Rattle.matcher_code.specs.Laid as lay
use Rattle.matcher_compiler.proofs.Growing.{later_twice}
use Rattle.matcher_sets.proofs.Leaves.{one_as}
use Rattle.matcher_compiler.specs.Names.{number_in}
use Rattle.matcher_sets.specs.Forms.{grammar_in}
use Rattle.matcher_compiler.proofs.plan.Plan.character.Goals as goal

pub returns-clause-later : goal.returns-clause-later
returns-clause-later c = later_twice c.args.program.now _ _ _ (c.in_ok-set.ensures.later c.args.program.now) (c.in_ok-operation.ensures.later c.args.program.now)

pub returns-clause-lays : goal.returns-clause-lays
returns-clause-lays c = λ classes fits code laid m.
    let p = c.args.program.now in
    let m1 = (c.in_ok-operation.ensures.later p).met code laid m in
    let x = c.requires.ranges classes fits in
    lay.leaf (character_outcome x.characters) in_silence (x.holds c.args.at.mode)
    (one_as c.args.ranges.items x.characters x.covers code (number_in (grammar_in p)) m.fail c.in_ok-set.set
    (c.in_ok-set.ensures.means p code laid m1) c.args.at.label c.args.at.next c.args.at.on_fail (c.in_ok-operation.ensures.met p code laid m))
