use Rattle.std.proofs.Common.{◌∙◌, IfOk, IfSome, ap, subst, sym}
use Rattle.base_language.specs.Language.Expression.{Rep}
use Rattle.base_language.specs.Language.Meaning.{Run}
use Rattle.matcher_sets.specs.Forms.{said}
use Rattle.matcher_sets.specs.Modes.{mode_of}
use Rattle.matcher_compiler.specs.Plans.{TakesSpanIn}
use Rattle.matcher_compiler.proofs.Spanning.{search_in}
use Rattle.matcher_compiler.proofs.spans.span_ranges.Goals as goal

pub returns-in-Rep : goal.returns-in-Rep
returns-in-Rep c =
    let p = c.args.program.now in
    subst (λ e. IfOk c.repeated_ranges.result (λ made. IfSome made (λ ranges. TakesSpanIn p (Run (mode_of c.args.mode) e) ranges.items)))
    (ap (λ f. Rep (said p f)) c.deref.ensures ∙ sym (ap (said p) c.in-Rep.is)) c.repeated_ranges.ensures

pub returns-in-Skip : goal.returns-in-Skip
returns-in-Skip c =
    let p = c.args.program.now in
    subst (λ f. IfOk c.searched_ranges.result (λ made. IfSome made (λ ranges. TakesSpanIn p (Run (mode_of c.args.mode) (said p f)) ranges.items))) (sym c.in-Skip.is)
    (search_in p (mode_of c.args.mode) c.in-Skip.texts.items c.searched_ranges.result c.searched_ranges.ensures)
