use Rattle.std.proofs.Common.{ap, ◌∙◌}
use Rattle.std.proofs.lemmas.Result.{err_from_is_err_and}
use Rattle.serde_json.specs.Written.{compact_text}
use Rattle.pest_meta.specs.Spelling.{AreFlawed}
use Rattle.format_json.specs.Placed.{placed_rules_data}
use Rattle.pest_meta_c.specs.Answers.{AreNodes}
use Rattle.pest_meta_c.specs.Refusals.{OfTrees}
use Rattle.pest_meta_c.proofs.Answering.{answered_from, nodes_answered}
use Rattle.pest_meta_c.proofs.Telling.{not_read, told_such, without_trees}
use Rattle.pest_meta_c.proofs.calls.nodes.Goals as goal

pub returns-in_err-forest-clause-refused : goal.returns-in_err-forest-clause-refused
returns-in_err-forest-clause-refused c =
    let text = c.args.text.now in
    let p = err_from_is_err_and c.from_residual.result c.from_residual.ensures.1 in
    rw (p.1, p.2) (without_trees text (AreFlawed text) c.in_err-forest.field-0.0 c.in_err-forest.ensures.refused)

pub returns-in-Ok-clause-answered : goal.returns-in-Ok-clause-answered
returns-in-Ok-clause-answered c =
    let text = c.args.text.now in
    let read = c.in-Ok in
    answered_from (AreNodes text) (placed_rules_data c.deref.result.now) c.nodes_text-json.result c.to_outcome.result c.nodes_text-json.ensures
    (λ bytes e. nodes_answered text bytes c.in_ok-forest.forest read.rules.items c.in_ok-forest.ensures.text c.in_ok-forest.ensures.spelled read.ensures.flawless read.ensures.rules (e ∙ ap (λ xs. compact_text (placed_rules_data xs)) c.deref.ensures.value))
    c.to_outcome.ensures.answered

pub returns-clause-refused : goal.returns-clause-refused
returns-clause-refused c =
    let text = c.args.text.now in
    let read = c.in-Err in
    told_such text (OfTrees (AreFlawed text) text) read.fault c.to_refusal.result
    (not_read text c.in_ok-forest.forest read.fault c.in_ok-forest.ensures.text c.in_ok-forest.ensures.spelled read.ensures.refused) c.to_refusal.ensures
