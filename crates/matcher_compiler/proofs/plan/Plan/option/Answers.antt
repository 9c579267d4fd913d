use Rattle.std.proofs.Common.{◌<◌, arith}
use Rattle.matcher_code.specs.Laid as lay
use Rattle.matcher_compiler.proofs.plan.Plan.option.Goals as goal

pub returns-clause-later : goal.returns-clause-later
returns-clause-later c = c.in_ok-alternative.ensures.later

pub returns-clause-lays : goal.returns-clause-lays
returns-clause-lays c = λ classes fits code laid m.
    let up : 0 < c.args.at.next = omega arith in
    let x = c.in_ok-alternative.ensures.begins classes fits code laid m in
    lay.opt x.first up x.entered x.point
