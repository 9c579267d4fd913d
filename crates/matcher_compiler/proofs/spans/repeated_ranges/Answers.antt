use Rattle.std.proofs.Common.{◌∙◌, IfOk, IfSome, ap, ap₂, subst, sym}
use Rattle.base_language.specs.Language.Expression.{Rep, Seq}
use Rattle.base_language.specs.Language.Meaning.{Run}
use Rattle.matcher_sets.specs.Forms.{said}
use Rattle.matcher_sets.specs.Modes.{mode_of}
use Rattle.matcher_compiler.specs.Plans.{TakesSpanIn}
use Rattle.matcher_compiler.proofs.spans.repeated_ranges.Goals as goal

pub returns-in-Seq : goal.returns-in-Seq
returns-in-Seq c =
    let p = c.args.program.now in
    subst (λ e. IfOk c.other_ranges.result (λ made. IfSome made (λ ranges. TakesSpanIn p (Run (mode_of c.args.mode) (Rep e)) ranges.items)))
    (ap₂ (λ a b. Seq (said p a) (said p b)) c.deref.ensures c.deref-in-Seq.ensures ∙ sym (ap (said p) c.in-Seq.is)) c.other_ranges.ensures
