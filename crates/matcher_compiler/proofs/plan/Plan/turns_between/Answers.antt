use Rattle.std.proofs.Common.{◌<◌, arith, inl}
use Rattle.matcher_code.specs.Laid as lay
use Rattle.matcher_compiler.proofs.Growing.{later_twice, part_as}
use Rattle.matcher_compiler.proofs.Skipping.{tight_between}
use Rattle.base_language.specs.Language.Meaning.{Run}
use Rattle.base_language.specs.Language.State.{Between}
use Rattle.matcher_sets.specs.Forms.{grammar_in}
use Rattle.matcher_compiler.proofs.plan.Plan.turns_between.Goals as goal

pub returns-clause-later : goal.returns-clause-later
returns-clause-later c =
    let p = c.args.program.now in
    later_twice p _ _ _ (later_twice p _ _ _ (c.in_ok-demand.ensures.later p) (c.in_ok-label.ensures.later p)) (c.in_ok-point.ensures.later p c.requires.bound)

pub returns-clause-lays : goal.returns-clause-lays
returns-clause-lays c = λ e same fails classes fits code laid m.
    let p = c.args.program.now in
    let m2 = (c.in_ok-point.ensures.later p c.requires.bound).met code laid m in
    let m1 = (c.in_ok-label.ensures.later p).met code laid m2 in
    let up : 0 < c.args.at.next = omega arith in
    lay.tight_rep c.in_ok-label.label (tight_between (grammar_in p) classes) (c.in_ok-demand.ensures.met p code laid m1) up
    (inl (c.in_ok-label.ensures.enters p (Run Between e) fails classes fits code laid m2)) (part_as laid same (c.in_ok-point.ensures.has p code laid m))
