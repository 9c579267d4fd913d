use Rattle.std.proofs.Common.{ap, ◌∙◌}
use Rattle.std.proofs.lemmas.Result.{err_from_is_err_and}
use Rattle.serde_json.specs.Written.{compact_text}
use Rattle.format_json.specs.Format.{rules_data}
use Rattle.pest_meta_c.specs.Answers.{AreRules}
use Rattle.pest_meta_c.specs.Refusals.{OfTrees}
use Rattle.pest_meta_c.proofs.Answering.{answered_from, rules_answered}
use Rattle.pest_meta_c.proofs.Telling.{HaveWrongRules, rejected, told_such, without_trees}
use Rattle.pest_meta_c.proofs.calls.rules.Goals as goal

pub returns-in_err-forest-clause-refused : goal.returns-in_err-forest-clause-refused
returns-in_err-forest-clause-refused c =
    let text = c.args.text.now in
    let p = err_from_is_err_and c.from_residual.result c.from_residual.ensures.1 in
    rw (p.1, p.2) (without_trees text (HaveWrongRules text) c.in_err-forest.field-0.0 c.in_err-forest.ensures.refused)

pub returns-in-Ok-clause-answered : goal.returns-in-Ok-clause-answered
returns-in-Ok-clause-answered c =
    let text = c.args.text.now in
    let read = c.in-Ok in
    answered_from (AreRules text) (rules_data c.deref.result.now) c.rules_text-json.result c.to_outcome.result c.rules_text-json.ensures.text
    (λ bytes e. rules_answered text bytes c.in_ok-forest.forest read.rules.items c.in_ok-forest.ensures.text c.in_ok-forest.ensures.spelled read.ensures.rules read.ensures.counts (e ∙ ap (λ xs. compact_text (rules_data xs)) c.deref.ensures.value))
    c.to_outcome.ensures.answered

pub returns-clause-refused : goal.returns-clause-refused
returns-clause-refused c =
    let text = c.args.text.now in
    let read = c.in-Err in
    told_such text (OfTrees (HaveWrongRules text) text) read.fault c.to_refusal.result
    (rejected text c.in_ok-forest.forest read.fault c.in_ok-forest.ensures.text c.in_ok-forest.ensures.spelled read.ensures.refused) c.to_refusal.ensures
