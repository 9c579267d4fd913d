use Rattle.std.proofs.Common.{◌∙◌, IfOk, IfSome, ap, subst, sym}
use Rattle.base_language.specs.Language.Expression.{NegPred, Opt, Seq}
use Rattle.base_language.specs.Language.Meaning.{Run}
use Rattle.matcher_sets.specs.Forms.{said}
use Rattle.matcher_sets.specs.Modes.{mode_of}
use Rattle.matcher_compiler.specs.Plans.{TakesOneIn}
use Rattle.matcher_compiler.proofs.shortcuts.sequence_ranges.Goals as goal

pub returns-in-NegPred : goal.returns-in-NegPred
returns-in-NegPred c =
    let p = c.args.program.now in
    subst (λ e. IfOk c.unstopped_ranges.result (λ made. IfSome made (λ ranges. TakesOneIn p (Run (mode_of c.args.mode) (Seq e (said p c.args.second.now))) ranges.items)))
    (ap (λ f. NegPred (said p f)) c.deref.ensures ∙ sym (ap (said p) c.in-NegPred.is)) c.unstopped_ranges.ensures.refused

pub returns-in-Opt : goal.returns-in-Opt
returns-in-Opt c =
    let p = c.args.program.now in
    subst (λ e. IfOk c.unstopped_ranges-in-Opt.result (λ made. IfSome made (λ ranges. TakesOneIn p (Run (mode_of c.args.mode) (Seq e (said p c.args.second.now))) ranges.items)))
    (ap (λ f. Opt (said p f)) c.deref-in-Opt.ensures ∙ sym (ap (said p) c.in-Opt.is)) c.unstopped_ranges-in-Opt.ensures.missing
