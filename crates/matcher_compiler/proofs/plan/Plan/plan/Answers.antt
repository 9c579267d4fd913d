use Rattle.std.proofs.Common.{◌≡◌, ◌<◌, arith, get_or, length}
use Rattle.std.proofs.lemmas.Grind.{common_steps}
use Rattle.matcher_compiler.proofs.Finishing.{laid_more}
use Rattle.matcher_compiler.proofs.Growing.{later_twice}
use Rattle.matcher_compiler.proofs.plan.Plan.plan.Goals as goal

pub returns-in-None-clause-lays : goal.returns-in-None-clause-lays
returns-in-None-clause-lays c = λ i d h.
    let l : i < c.loop-number.number = grind (arith, common_steps) in
    c.loop-number.invariant.lays i d l h

pub loop-number-preserved : goal.loop-number-preserved
loop-number-preserved c =
    let p = c.args.program.now in
    let later = c.in_ok-part.ensures.later in
    let within : c.loop-number.number < length c.loop-number.self.points.items = grind (arith, common_steps) in
    let is : c.in-Some.point.now ≡ get_or c.loop-number.self.points.items c.loop-number.number c.in-Some.point.now = grind (arith, common_steps) in
    record {
      later = later_twice p _ _ _ c.loop-number.invariant.later later;
      ready = later.ready c.loop-number.invariant.ready;
      bound = later.bound c.loop-number.invariant.bound;
      lays = laid_more p _ _ c.loop-number.number c.in-Some.point.now later within is c.loop-number.invariant.lays c.in_ok-part.ensures.lays;
    }
