use Rattle.std.proofs.Common.{subst, sym}
use Rattle.base_language.specs.Language.Meaning.{Skipping}
use Rattle.matcher_code.specs.Laid as lay
use Rattle.matcher_sets.specs.Forms.{grammar_in}
use Rattle.matcher_compiler.specs.Exact.{is_exact}
use Rattle.matcher_compiler.specs.Names.{number_in}
use Rattle.matcher_compiler.proofs.Growing.{later_twice}
use Rattle.matcher_compiler.proofs.plan.Plan.skip_call.Goals as goal

pub returns-clause-later : goal.returns-clause-later
returns-clause-later c =
    let p = c.args.program.now in
    later_twice p _ _ _ (later_twice p _ _ _ c.in_ok-to.ensures.later (c.in_ok-operation.ensures.later p)) (c.in_ok-operation-2.ensures.later p)

pub returns-clause-lays : goal.returns-clause-lays
returns-clause-lays c = λ classes fits code laid m.
    let p = c.args.program.now in
    let at = c.args.at in
    let m2 = (c.in_ok-operation-2.ensures.later p).met code laid m in
    let m1 = (c.in_ok-operation.ensures.later p).met code laid m2 in
    subst (λ k. lay.Lays (is_exact code) (grammar_in p) classes code (number_in (grammar_in p)) laid at.rank (Skipping k) at.label at.next at.on_fail) (sym c.requires.mode)
    (lay.routine _ _ (c.in_ok-operation-2.ensures.met p code laid m) (c.in_ok-to.ensures.has code laid m1) (c.in_ok-operation.ensures.met p code laid m2))
