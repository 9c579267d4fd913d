use Rattle.std.proofs.Common.{◌<◌, arith, inl, refl}
use Rattle.matcher_compiler.proofs.Growing.{later_twice}
use Rattle.matcher_code.specs.Laid as lay
use Rattle.matcher_compiler.proofs.plan.Plan.tight_repetition.Goals as goal

pub returns-clause-later : goal.returns-clause-later
returns-clause-later c = later_twice c.args.program.now _ _ _ (c.in_ok-demand.ensures.later c.args.program.now) (c.in_ok-point.ensures.later c.args.program.now c.requires.bound)

pub returns-clause-lays : goal.returns-clause-lays
returns-clause-lays c = λ classes fits code laid m.
    let m1 = (c.in_ok-point.ensures.later c.args.program.now c.requires.bound).met code laid m in
    let up : 0 < c.args.at.next = omega arith in
    lay.tight_rep c.args.at.label (c.requires.tight classes) (c.in_ok-demand.ensures.met c.args.program.now code laid m1) up (inl (inl refl)) (c.in_ok-point.ensures.has c.args.program.now code laid m)
