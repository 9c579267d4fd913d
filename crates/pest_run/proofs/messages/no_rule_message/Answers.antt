use Rattle.std.proofs.Common.{◌≡◌, ◌∙◌, ◌++◌, ap, ap₂, sym, take}
use Rattle.std.specs.Prelude.{chars}
use Rattle.std.proofs.lemmas.List.{take-map}
use Rattle.matcher_program.specs.ExpectedNames.{name_texts}
use Rattle.pest_run.specs.Messages.{suggestion}
use Rattle.pest_run.specs.RuleNames.{near_among, near_names}
use Rattle.pest_run.proofs.messages.no_rule_message.Goals as goal

pub returns : goal.returns
returns c = λ g of.
    let first : name_texts (take 5 c.in_ok-near.near.items) ≡ take 5 (near_names g c.args.name.now) =
    sym (take-map (λ n. chars n.now) 5 c.in_ok-near.near.items) ∙ ap (λ ns. take 5 ns) (c.in_ok-near.ensures ∙ ap (λ ns. near_among ns c.args.name.now) of) in
    let asked = c.in_ok-question.ensures ∙ (ap (λ ns. suggestion (name_texts ns)) (c.deref.ensures.value ∙ c.truncate.ensures.items) ∙ ap suggestion first) in
    let named = c.in_ok-push_str.ensures.bytes ∙ ap₂ (λ a b. a ++ b) c.in_ok-message.ensures.ok (c.as_str.ensures.value ∙ c.in_ok-shown.ensures) in
    c.in_ok-push_str-2.ensures.bytes ∙ ap₂ (λ a b. a ++ b) named (c.as_str-2.ensures.value ∙ asked)
