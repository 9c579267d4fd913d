use Rattle.std.proofs.Common.{◌≡◌, rules, subst}
use Rattle.std.proofs.lemmas.Result.{IfOk-weaker}
use Rattle.base_ast.specs.Ast.{rules_of}
use Rattle.front_spanned.specs.Nodes.{rule_views}
use Rattle.pest_doc.specs.Outcomes.{IsOutcome, answered, not_utf8, refused}
use Rattle.pest_doc.specs.declared.run.DocumentOutcome.TheVariants as outcome
use Rattle.pest_meta.proofs.Opens.{unvalidated}
use Rattle.pest_doc.proofs.run.outcome_of.Goals as goal

pub returns-in_default : goal.returns-in_default
returns-in_default c = not_utf8 (search rules)

pub returns-in_ok-doc-in-Ok-open_unvalidated : goal.returns-in_ok-doc-in-Ok-open_unvalidated
returns-in_ok-doc-in-Ok-open_unvalidated c =
    let opened = c.in-Ok-open_unvalidated.opened in
    let read = c.in-Ok-open_unvalidated.ensures in
    let same : c.in-Ok.text.now ≡ c.args.bytes.now = search rules in
    let format = c.args.request.format in
    IfOk-weaker c.answer_of.result _ _ (λ o made. subst (λ bytes. IsOutcome format bytes o) same (answered (
      rules_of c.in_ok-doc-in-Ok-open_unvalidated.doc.rules.value.items,
      record {
        forest = opened.forest;
        of_text = read.forest;
        well_named = read.named;
        flawless = read.flawless;
        are_rules = (rule_views opened.rules.value.items, read.rules, c.in_ok-doc-in-Ok-open_unvalidated.ensures);
      },
      made,
    ))) c.answer_of.ensures

pub returns-in_ok-message-in-Err : goal.returns-in_ok-message-in-Err
returns-in_ok-message-in-Err c =
    let same : c.in-Ok.text.now ≡ c.args.bytes.now = search rules in
    let message = c.in_ok-message-in-Err.message in
    subst (λ bytes. IsOutcome c.args.request.format bytes (outcome.Refused message)) same (refused _ c.in-Err.error message c.in-Err.ensures.refused c.in_ok-message-in-Err.ensures)

pub refusal_message-requires : goal.refusal_message-requires
refusal_message-requires c = unvalidated c.in-Ok.text.now c.in-Err.error c.in-Err.ensures.refused
