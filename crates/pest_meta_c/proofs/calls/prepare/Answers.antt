use Rattle.std.proofs.Common.{◌++◌, ◌∙◌, ap}
use Rattle.format_binary.specs.Format.{optimized_rules_bytes}
use Rattle.format_json.specs.Refusals.{IsRefusedAsOptimized}
use Rattle.pest_meta_c.proofs.Telling.{no_json}
use Rattle.pest_meta_c.proofs.calls.prepare.Goals as goal

pub returns-in-Ok-push_optimized_rules-clause-answered : goal.returns-in-Ok-push_optimized_rules-clause-answered
returns-in-Ok-push_optimized_rules-clause-answered c = record {
  rules = c.in-Ok.rules.items;
  read = c.in-Ok.ensures.rules;
  written = c.in-Ok-push_optimized_rules.ensures
      ∙ (ap (λ t. t ++ optimized_rules_bytes c.deref.result.now) c.new-bytes.ensures.items ∙ ap optimized_rules_bytes c.deref.ensures.value);
}

pub returns-in-Err-Text-clause-refused : goal.returns-in-Err-Text-clause-refused
returns-in-Err-Text-clause-refused c =
    let why = rw c.in-Err-Text.field-0-is at c.in-Err-Text.ensures.exact in
    no_json IsRefusedAsOptimized c.args.json.now c.in-Err-Text.place c.in-Err-Text.why c.json_refusal.result why c.json_refusal.ensures
