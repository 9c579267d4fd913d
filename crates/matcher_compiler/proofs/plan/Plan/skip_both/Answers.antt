use Rattle.std.proofs.Common.{subst, sym}
use Rattle.matcher_code.specs.Laid as lay
use Rattle.base_language.specs.Language.Meaning.{Skipping}
use Rattle.matcher_compiler.specs.Exact.{is_exact}
use Rattle.matcher_compiler.specs.Names.{number_in}
use Rattle.matcher_sets.specs.Forms.{grammar_in}
use Rattle.matcher_compiler.proofs.plan.Plan.skip_both.Goals as goal

pub returns-clause-later : goal.returns-clause-later
returns-clause-later c = c.in_ok-point.ensures.later c.args.program.now tt

pub returns-clause-lays : goal.returns-clause-lays
returns-clause-lays c = λ classes fits code laid m.
    let p = c.args.program.now in
    let at = c.args.at in
    subst (λ k. lay.Lays (is_exact code) (grammar_in p) classes code (number_in (grammar_in p)) laid at.rank (Skipping k) at.label at.next at.on_fail) (sym c.requires.mode)
    (lay.skips (c.in_ok-point.ensures.has p code laid m))
