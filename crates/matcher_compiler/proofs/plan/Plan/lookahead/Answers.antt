use Rattle.std.proofs.Common.{◌∙◌, ap}
use Rattle.matcher_compiler.proofs.Growing.{later_twice}
use Rattle.matcher_code.specs.Laid as lay
use Rattle.matcher_code.specs.declared.code.Op.TheVariants as op
use Rattle.matcher_compiler.proofs.plan.Plan.lookahead.Goals as goal

pub returns-clause-later : goal.returns-clause-later
returns-clause-later c = later_twice c.args.program.now _ _ _ (later_twice c.args.program.now _ _ _ (c.in_ok-operation.ensures.later c.args.program.now) (c.in_ok-operation-2.ensures.later c.args.program.now)) (c.in_ok-point.ensures.later c.args.program.now c.requires.bound)

pub returns-clause-positive : goal.returns-clause-positive
returns-clause-positive c = λ begins found classes fits code laid m.
    let m2 = (c.in_ok-point.ensures.later c.args.program.now c.requires.bound).met code laid m in
    let m1 = (c.in_ok-operation-2.ensures.later c.args.program.now).met code laid m2 in
    lay.pos_pred _ _ (c.in_ok-operation.ensures.met c.args.program.now code laid m1 ∙ begins)
    (c.in_ok-point.ensures.has c.args.program.now code laid m) (c.in_ok-operation-2.ensures.met c.args.program.now code laid m2 ∙ ap op.Ahead found)

pub returns-clause-negative : goal.returns-clause-negative
returns-clause-negative c = λ begins found classes fits code laid m.
    let m2 = (c.in_ok-point.ensures.later c.args.program.now c.requires.bound).met code laid m in
    let m1 = (c.in_ok-operation-2.ensures.later c.args.program.now).met code laid m2 in
    lay.neg_pred _ _ (c.in_ok-operation.ensures.met c.args.program.now code laid m1 ∙ begins)
    (c.in_ok-point.ensures.has c.args.program.now code laid m) (c.in_ok-operation-2.ensures.met c.args.program.now code laid m2 ∙ ap op.Ahead found)
