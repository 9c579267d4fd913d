use Rattle.std.proofs.Common.{sym, subst}
use Rattle.matcher_code.specs.Laid as lay
use Rattle.base_language.specs.Language.Expression.{Seq}
use Rattle.base_language.specs.Language.Meaning.{Run}
use Rattle.matcher_sets.specs.Modes.{mode_of}
use Rattle.matcher_compiler.specs.Exact.{is_exact}
use Rattle.matcher_compiler.specs.Names.{number_in}
use Rattle.matcher_sets.specs.Forms.{grammar_in}
use Rattle.matcher_compiler.proofs.Growing.{part_as}
use Rattle.matcher_compiler.proofs.plan.Plan.bare_sequence.Goals as goal

pub returns-clause-later : goal.returns-clause-later
returns-clause-later c = c.in_ok-parts.ensures.later

pub returns-clause-lays : goal.returns-clause-lays
returns-clause-lays c = λ a b left right classes fits code laid m.
    let x = c.in_ok-parts.ensures.lays code laid m in
    let at = c.args.at in
    subst (λ w. lay.Lays (is_exact code) (grammar_in c.args.program.now) classes code (number_in (grammar_in c.args.program.now)) laid at.rank (Run (mode_of at.mode) (Seq a b)) at.label at.next w) (sym c.requires.on_fail)
    (lay.seq x.behind x.begin (part_as laid left x.left) x.skipping (part_as laid right x.right))
