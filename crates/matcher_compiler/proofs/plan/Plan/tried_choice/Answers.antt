use Rattle.matcher_compiler.proofs.Growing.{later_twice}
use Rattle.matcher_code.specs.Laid as lay
use Rattle.matcher_compiler.proofs.plan.Plan.tried_choice.Goals as goal

pub returns-clause-later : goal.returns-clause-later
returns-clause-later c = later_twice c.args.program.now _ _ _ c.in_ok-alternative.ensures.later c.in_ok-alternative-2.ensures.later

pub returns-clause-lays : goal.returns-clause-lays
returns-clause-lays c = λ classes fits code laid m.
    let m1 = c.in_ok-alternative-2.ensures.later.met code laid m in
    let up = c.requires.up in
    let x = c.in_ok-alternative.ensures.begins classes fits code laid m1 in
    let y = c.in_ok-alternative-2.ensures.begins classes fits code laid m in
    lay.choice c.args.fresh x.first y.first up x.entered x.point y.entered y.point
