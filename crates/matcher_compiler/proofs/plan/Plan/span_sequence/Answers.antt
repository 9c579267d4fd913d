use Rattle.std.proofs.Common.{◌<◌, arith, subst, sym}
use Rattle.base_language.specs.Language.Expression.{Seq}
use Rattle.base_language.specs.Language.Meaning.{Run}
use Rattle.matcher_code.specs.Laid as lay
use Rattle.matcher_code.specs.Laid.{IsPart}
use Rattle.matcher_code.proofs.Trivia.{trivia_of}
use Rattle.matcher_compiler.specs.Exact.{is_exact}
use Rattle.matcher_compiler.proofs.Growing.{later_twice}
use Rattle.matcher_compiler.proofs.Noting.{if_noted}
use Rattle.matcher_compiler.specs.Names.{number_in}
use Rattle.matcher_sets.specs.Forms.{grammar_in, said}
use Rattle.matcher_sets.specs.Modes.{mode_of}
use Rattle.matcher_compiler.proofs.plan.Plan.span_sequence.Goals as goal

pub returns-clause-later : goal.returns-clause-later
returns-clause-later c =
    let p = c.args.program.now in
    later_twice p _ _ _ (later_twice p _ _ _ (later_twice p _ _ _ (later_twice p _ _ _ (c.in_ok-miss.ensures.later p) (c.in_ok-set.ensures.later p)) (c.in_ok-stops.ensures.later p))
    (c.in_ok-operation.ensures.later p)) (c.in_ok-point.ensures.later p c.requires.bound)

pub returns-clause-lays : goal.returns-clause-lays
returns-clause-lays c = λ e takes classes fits code laid m.
    let p = c.args.program.now in
    let at = c.args.at in
    let g = grammar_in p in
    let b = said p c.args.second.now in
    let r = c.requires in
    let m4 = (c.in_ok-point.ensures.later p r.bound).met code laid m in
    let m3 = (c.in_ok-operation.ensures.later p).met code laid m4 in
    let m2 = (c.in_ok-stops.ensures.later p).met code laid m3 in
    let m1 = (c.in_ok-set.ensures.later p).met code laid m2 in
    let up : 0 < at.next = omega arith in
    let x = takes classes fits in
    let h = c.args.first_set in
    let right = subst (λ w. IsPart laid at.rank (Run (mode_of at.mode) b) c.args.fresh at.next w) r.on_fail (c.in_ok-point.ensures.has p code laid m) in
    subst (λ w. lay.Lays (is_exact code) g classes code (number_in g) laid at.rank (Run (mode_of at.mode) (Seq e b)) at.label at.next w) (sym r.on_fail)
    (lay.set_seq _ (r.tight classes)
    (trivia_of code (number_in g) m.fail (is_exact code) g classes (Run (mode_of at.mode) e) (Run (mode_of at.mode) b) c.in_ok-set.set c.in_ok-stops.stops
    c.args.ranges.items h.ranges.items x.characters h.noted at.label _ at.next c.in_ok-miss.miss (c.in_ok-operation.ensures.met p code laid m4)
    (c.in_ok-set.ensures.means p code laid m2) x.covers x.takes (c.in_ok-stops.ensures.means p code laid m3)
    (r.takes classes fits) (if_noted code h.noted _ _ (c.in_ok-miss.ensures.goes p code laid m1)) (c.in_ok-miss.ensures.goes p code laid m1) up) right)
