use Rattle.matcher_compiler.proofs.Growing.{later_twice}
use Rattle.matcher_code.specs.Laid as lay
use Rattle.matcher_sets.proofs.Rules.{made, meant_is}
use Rattle.matcher_compiler.proofs.Calling.{body_point}
use Rattle.matcher_sets.specs.Modes.{mode_of}
use Rattle.matcher_compiler.proofs.plan.Plan.silent_call.Goals as goal

pub returns-clause-later : goal.returns-clause-later
returns-clause-later c = later_twice c.args.program.now _ _ _ (later_twice c.args.program.now _ _ _ (c.in_ok-to.ensures.later) (c.in_ok-operation.ensures.later c.args.program.now)) (c.in_ok-operation-2.ensures.later c.args.program.now)

pub returns-clause-lays : goal.returns-clause-lays
returns-clause-lays c = λ classes fits code laid m.
    let m2 = (c.in_ok-operation-2.ensures.later c.args.program.now).met code laid m in
    let m1 = (c.in_ok-operation.ensures.later c.args.program.now).met code laid m2 in
    lay.sub (made c.args.program.now c.args.rule c.args.program_rule.now c.requires.within c.requires.is) _ _ (meant_is c.args.program.now c.args.rule c.args.program_rule.now c.requires.within c.requires.is c.requires.meant) c.requires.gives
    (c.in_ok-operation-2.ensures.met c.args.program.now code laid m)
    (body_point c.args.program.now c.args.rule c.args.program_rule.now c.requires.within c.requires.is c.requires.sound laid (mode_of c.args.at.mode) _ _ _ c.body_mode-inner.ensures (c.in_ok-to.ensures.has code laid m1))
    (c.in_ok-operation.ensures.met c.args.program.now code laid m2)
