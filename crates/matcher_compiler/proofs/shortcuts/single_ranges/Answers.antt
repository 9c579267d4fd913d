use Rattle.std.proofs.Common.{◌∙◌, IfOk, IfSome, ap, ap₂, subst, sym}
use Rattle.base_language.specs.Language.Expression.{Choice}
use Rattle.base_language.specs.Language.Meaning.{Run}
use Rattle.matcher_sets.specs.Forms.{said}
use Rattle.matcher_sets.specs.Modes.{mode_of}
use Rattle.matcher_compiler.specs.Plans.{TakesOneIn}
use Rattle.matcher_compiler.proofs.shortcuts.single_ranges.Goals as goal

pub returns-in-Choice : goal.returns-in-Choice
returns-in-Choice c =
    let p = c.args.program.now in
    subst (λ e. IfOk c.either_ranges.result (λ made. IfSome made (λ ranges. TakesOneIn p (Run (mode_of c.args.mode) e) ranges.items)))
    (ap₂ (λ a b. Choice (said p a) (said p b)) c.deref.ensures c.deref-in-Choice.ensures ∙ sym (ap (said p) c.in-Choice.is)) c.either_ranges.ensures
