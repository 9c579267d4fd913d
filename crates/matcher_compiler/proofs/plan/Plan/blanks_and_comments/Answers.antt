use Rattle.std.proofs.Common.{subst, sym}
use Rattle.matcher_code.specs.Laid as lay
use Rattle.base_language.specs.Language.Meaning.{Run, skipped}
use Rattle.base_language.specs.Language.State.{Between}
use Rattle.matcher_compiler.specs.Exact.{is_exact}
use Rattle.matcher_compiler.proofs.Growing.{later_twice}
use Rattle.matcher_compiler.specs.Names.{number_in}
use Rattle.matcher_sets.specs.Forms.{grammar_in}
use Rattle.matcher_compiler.proofs.plan.Plan.blanks_and_comments.Goals as goal

pub returns-clause-later : goal.returns-clause-later
returns-clause-later c =
    let p = c.args.program.now in
    later_twice p _ _ _ (later_twice p _ _ _ (c.in_ok-point.ensures.later p tt) (c.in_ok-point-2.ensures.later p tt)) (c.in_ok-point-3.ensures.later p tt)

pub returns-clause-lays : goal.returns-clause-lays
returns-clause-lays c = λ classes fits code laid m.
    let p = c.args.program.now in
    let at = c.args.at in
    let m2 = (c.in_ok-point-3.ensures.later p tt).met code laid m in
    let m1 = (c.in_ok-point-2.ensures.later p tt).met code laid m2 in
    subst (λ w. lay.Lays (is_exact code) (grammar_in p) classes code (number_in (grammar_in p)) laid at.rank (Run Between skipped) at.label at.next w) (sym c.requires.on_fail)
    (lay.seq _ _ (c.in_ok-point.ensures.has p code laid m1) (c.in_ok-point-2.ensures.has p code laid m2) (c.in_ok-point-3.ensures.has p code laid m))
