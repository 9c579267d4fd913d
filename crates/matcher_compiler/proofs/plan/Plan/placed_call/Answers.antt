use Rattle.matcher_code.specs.Laid as lay
use Rattle.matcher_sets.proofs.Rules.{made, meant_is}
use Rattle.matcher_compiler.proofs.Calling.{body_part}
use Rattle.matcher_sets.specs.Modes.{mode_of}
use Rattle.matcher_compiler.proofs.plan.Plan.placed_call.Goals as goal

pub returns-clause-later : goal.returns-clause-later
returns-clause-later c = c.in_ok-point.ensures.later c.args.program.now c.requires.within

pub returns-clause-lays : goal.returns-clause-lays
returns-clause-lays c = λ classes fits code laid m.
    let p = c.args.program.now in
    let at = c.args.at in
    lay.in_place (made p c.args.rule c.args.program_rule.now c.requires.within c.requires.is) (meant_is p c.args.rule c.args.program_rule.now c.requires.within c.requires.is c.requires.meant) c.requires.gives
    (body_part p c.args.rule c.args.program_rule.now c.requires.within c.requires.is c.requires.sound laid (mode_of at.mode) _ at.rank at.label at.next at.on_fail c.body_mode-mode.ensures
    (c.in_ok-point.ensures.has p code laid m))
