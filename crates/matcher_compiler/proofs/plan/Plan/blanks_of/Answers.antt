use Rattle.std.proofs.Common.{◌∙◌}
use Rattle.matcher_code.specs.Failures.{in_silence}
use Rattle.matcher_code.specs.Laid as lay
use Rattle.matcher_code.specs.Laid.{skip_set}
use Rattle.matcher_sets.proofs.Leaves.{all_as}
use Rattle.matcher_compiler.specs.Names.{number_in}
use Rattle.matcher_sets.specs.Forms.{grammar_in}
use Rattle.matcher_compiler.proofs.plan.Plan.blanks_of.Goals as goal

pub returns-clause-later : goal.returns-clause-later
returns-clause-later c = c.in_ok-operation.ensures.later c.args.program.now

pub returns-clause-lays : goal.returns-clause-lays
returns-clause-lays c = λ classes fits code laid m.
    let p = c.args.program.now in
    let m0 = (c.in_ok-operation.ensures.later p).met code laid m in
    let s = c.requires.set in
    let b = s.blank classes fits in
    lay.leaf (skip_set b.characters) in_silence b.takes
    (all_as s.ranges b.characters b.covers code (number_in (grammar_in p)) m.fail c.args.set (λ x bs h u. m0.sets c.args.set x bs s.within h ∙ s.is x bs h u)
    c.args.at.label c.args.at.next c.args.at.on_fail (c.in_ok-operation.ensures.met p code laid m))
