use Rattle.std.proofs.Common.{◌≡◌, ◌<◌, arith, get_or, length, true}
use Rattle.std.proofs.lemmas.Grind.{common_steps}
use Rattle.matcher_compiler.proofs.Finishing.{body_made}
use Rattle.matcher_compiler.proofs.check.has_body.Goals as goal

pub returns : goal.returns
returns c = λ e p.
    let within : c.args.number < length c.args.points.now = grind (arith, common_steps) in
    let is : c.in-Some.point.now ≡ get_or c.args.points.now c.args.number c.in-Some.point.now = grind (arith, common_steps) in
    let rule : c.in-Body.known ≡ c.args.rule = omega arith in
    let t : c.is_mode.result ≡ true = grind (arith, common_steps) in
    let first : c.in-Some.point.now.at.label ≡ c.args.first = omega arith in
    let last : c.in-Some.point.now.at.next ≡ c.args.last = omega arith in
    let on_fail : c.in-Some.point.now.at.on_fail ≡ 0 = omega arith in
    body_made p c.args.points.now c.args.number c.in-Some.point.now within is c.in-Body.is rule (c.is_mode.ensures t) first last on_fail
