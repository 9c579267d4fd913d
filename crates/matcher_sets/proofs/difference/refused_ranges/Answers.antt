use Rattle.std.proofs.Common.{◌∙◌, ap, subst, sym}
use Rattle.base_language.specs.Language.Expression.{NegPred}
use Rattle.matcher_sets.specs.Forms.{IsBoundIn, said}
use Rattle.matcher_sets.proofs.Excluding.{all_refused}
use Rattle.matcher_sets.proofs.difference.refused_ranges.Goals as goal

pub first_ranges-requires : goal.first_ranges-requires
first_ranges-requires c =
    let p = c.args.program.now in
    record { bound = subst (IsBoundIn p) (sym c.deref.ensures) (subst (IsBoundIn p) c.in-NegPred.is c.requires.bound) }

pub returns-in-NegPred : goal.returns-in-NegPred
returns-in-NegPred c =
    let p = c.args.program.now in
    all_refused p c.args.form.now c.deref.result.now c.first_ranges.result (ap (said p) c.in-NegPred.is ∙ ap (λ f. NegPred (said p f)) (sym c.deref.ensures)) c.first_ranges.ensures
