use Rattle.std.proofs.Common.{ap, ◌∙◌}
use Rattle.serde_json.specs.Written.{compact_text}
use Rattle.format_json.specs.Format.{optimized_rules_data}
use Rattle.pest_meta_c.specs.Answers.{AreOptimized}
use Rattle.pest_meta_c.proofs.Answering.{answered_from}
use Rattle.format_json.specs.Refusals.{IsRefusedAsRules}
use Rattle.pest_meta_c.proofs.Telling.{no_json}
use Rattle.pest_meta_c.proofs.calls.optimize.Goals as goal

pub returns-in-Ok-optimize-clause-answered : goal.returns-in-Ok-optimize-clause-answered
returns-in-Ok-optimize-clause-answered c =
    answered_from (AreOptimized c.args.json.now) (optimized_rules_data c.deref.result.now) c.optimized_rules_text-json.result c.to_outcome.result c.optimized_rules_text-json.ensures.text
    (λ bytes e. record {
      rules = c.in-Ok.rules.items;
      read = c.in-Ok.ensures.rules;
      answer = c.in-Ok-optimize.rules.items;
      optimized = c.in-Ok-optimize.ensures.rules;
      agrees = c.in-Ok-optimize.ensures.agrees;
      written = e ∙ ap (λ rules. compact_text (optimized_rules_data rules)) c.deref.ensures.value;
    })
    c.to_outcome.ensures.answered

pub returns-in-Err-Text-clause-refused : goal.returns-in-Err-Text-clause-refused
returns-in-Err-Text-clause-refused c =
    let why = rw c.in-Err-Text.field-0-is at c.in-Err-Text.ensures.exact in
    no_json IsRefusedAsRules c.args.json.now c.in-Err-Text.place c.in-Err-Text.why c.json_refusal.result why c.json_refusal.ensures
