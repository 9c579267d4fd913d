use Rattle.std.proofs.Common.{◌∙◌, ◌<◌, arith, subst, sym}
use Rattle.base_language.specs.Language.Expression.{Seq}
use Rattle.base_language.specs.Language.Meaning.{Run, Skipping}
use Rattle.matcher_code.specs.Failures.{in_silence}
use Rattle.matcher_code.specs.Laid as lay
use Rattle.matcher_code.specs.Laid.{HasOutcome, IsPart, skip_set}
use Rattle.matcher_code.proofs.Trivia.{trivia_of}
use Rattle.matcher_compiler.specs.Exact.{is_exact}
use Rattle.matcher_compiler.proofs.Growing.{later_twice}
use Rattle.matcher_compiler.proofs.Noting.{if_noted}
use Rattle.matcher_compiler.proofs.Skipping.{blanks_alone}
use Rattle.matcher_compiler.specs.Names.{number_in}
use Rattle.matcher_sets.specs.Forms.{grammar_in, said}
use Rattle.matcher_sets.specs.Modes.{mode_of}
use Rattle.matcher_compiler.proofs.plan.Plan.trivia_sequence.Goals as goal

pub returns-clause-later : goal.returns-clause-later
returns-clause-later c =
    let p = c.args.program.now in
    let r = c.requires in
    later_twice p _ _ _ (later_twice p _ _ _ (later_twice p _ _ _ (later_twice p _ _ _ (c.in_ok-miss.ensures.later p) (c.in_ok-stops.ensures.later p)) (c.in_ok-operation.ensures.later p))
    (c.in_ok-point.ensures.later p r.first_bound)) (c.in_ok-point-2.ensures.later p r.second_bound)

pub returns-clause-lays : goal.returns-clause-lays
returns-clause-lays c = λ classes fits code laid m.
    let p = c.args.program.now in
    let at = c.args.at in
    let g = grammar_in p in
    let a = said p c.args.first.now in
    let b = said p c.args.second.now in
    let r = c.requires in
    let m4 = (c.in_ok-point-2.ensures.later p r.second_bound).met code laid m in
    let m3 = (c.in_ok-point.ensures.later p r.first_bound).met code laid m4 in
    let m2 = (c.in_ok-operation.ensures.later p).met code laid m3 in
    let m1 = (c.in_ok-stops.ensures.later p).met code laid m2 in
    let m0 = (c.in_ok-miss.ensures.later p).met code laid m1 in
    let up : 0 < at.next = omega arith in
    let s = r.set in
    let k = s.blank classes fits in
    let h = c.args.first_set in
    let skips = subst (λ i. HasOutcome g classes (Skipping i) (skip_set k.characters) in_silence) (sym r.mode) (blanks_alone g classes k.characters r.none k.takes) in
    let left = subst (λ w. IsPart laid at.rank (Run (mode_of at.mode) a) at.label c.args.fresh w) r.on_fail (c.in_ok-point.ensures.has p code laid m4) in
    let right = subst (λ w. IsPart laid at.rank (Run (mode_of at.mode) b) c.saturating_add-begin.result at.next w) r.on_fail (c.in_ok-point-2.ensures.has p code laid m) in
    subst (λ w. lay.Lays (is_exact code) g classes code (number_in g) laid at.rank (Run (mode_of at.mode) (Seq a b)) at.label at.next w) (sym r.on_fail)
    (lay.trivia_seq _ _ left
    (trivia_of code (number_in g) m.fail (is_exact code) g classes (Skipping (mode_of at.mode)) (Run (mode_of at.mode) b) c.args.set c.in_ok-stops.stops
    s.ranges h.ranges.items k.characters h.noted _ _ at.next c.in_ok-miss.miss (c.in_ok-operation.ensures.met p code laid m3)
    (λ x bs i u. m0.sets c.args.set x bs s.within i ∙ s.is x bs i u) k.covers skips (c.in_ok-stops.ensures.means p code laid m2)
    (r.takes classes fits) (if_noted code h.noted _ _ (c.in_ok-miss.ensures.goes p code laid m1)) (c.in_ok-miss.ensures.goes p code laid m1) up) right)
