use Rattle.std.proofs.Common.{◌∙◌, ◌<◌, arith, subst, sym}
use Rattle.base_language.specs.Language.Expression.{Rep}
use Rattle.base_language.specs.Language.Meaning as by
use Rattle.base_language.specs.Language.Meaning.{Run, skipped}
use Rattle.base_language.specs.Language.State.{Between}
use Rattle.matcher_code.specs.Laid as lay
use Rattle.matcher_code.proofs.Trivia.{trivia_of}
use Rattle.matcher_compiler.specs.Exact.{is_exact}
use Rattle.matcher_compiler.proofs.Growing.{later_twice}
use Rattle.matcher_compiler.proofs.Noting.{if_noted}
use Rattle.matcher_compiler.proofs.Skipping.{tight_between}
use Rattle.matcher_compiler.specs.Names.{number_in}
use Rattle.matcher_compiler.specs.Plans.{blanks, one_comment}
use Rattle.matcher_sets.specs.Forms.{grammar_in}
use Rattle.matcher_compiler.proofs.plan.Plan.blanks_before.Goals as goal

pub returns-clause-later : goal.returns-clause-later
returns-clause-later c =
    let p = c.args.program.now in
    later_twice p _ _ _ (later_twice p _ _ _ (later_twice p _ _ _ (c.in_ok-miss.ensures.later p) (c.in_ok-stops.ensures.later p)) (c.in_ok-operation.ensures.later p))
    (c.in_ok-point.ensures.later p tt)

pub returns-clause-lays : goal.returns-clause-lays
returns-clause-lays c = λ classes fits code laid m.
    let p = c.args.program.now in
    let at = c.args.at in
    let m3 = (c.in_ok-point.ensures.later p tt).met code laid m in
    let m2 = (c.in_ok-operation.ensures.later p).met code laid m3 in
    let m1 = (c.in_ok-stops.ensures.later p).met code laid m2 in
    let m0 = (c.in_ok-miss.ensures.later p).met code laid m1 in
    let up : 0 < at.next = omega arith in
    let s = c.requires.set in
    let b = s.blank classes fits in
    let h = c.args.first_set in
    subst (λ w. lay.Lays (is_exact code) (grammar_in p) classes code (number_in (grammar_in p)) laid at.rank (Run Between skipped) at.label at.next w) (sym c.requires.on_fail)
    (lay.set_seq _ (tight_between (grammar_in p) classes)
    (trivia_of code (number_in (grammar_in p)) m.fail (is_exact code) (grammar_in p) classes (Run Between blanks) (Run Between (Rep one_comment)) c.args.set c.in_ok-stops.stops
    s.ranges h.ranges.items b.characters h.noted at.label _ at.next c.in_ok-miss.miss (c.in_ok-operation.ensures.met p code laid m3)
    (λ x bs i u. m0.sets c.args.set x bs s.within i ∙ s.is x bs i u) b.covers b.takes (c.in_ok-stops.ensures.means p code laid m2)
    (λ t i. let x = c.requires.fails classes fits t i in (by.rep_none x.0, x.1, x.2)) (if_noted code h.noted _ _ (c.in_ok-miss.ensures.goes p code laid m1)) (c.in_ok-miss.ensures.goes p code laid m1) up)
    (c.in_ok-point.ensures.has p code laid m))
