use Rattle.format_json.proofs.Depths.{optimized_back}
use Rattle.format_json.proofs.rules.optimized_rules_text.Goals as goal

pub returns-clause-reads_back : goal.returns-clause-reads_back
returns-clause-reads_back c = optimized_back c.args.rules.now _ _ c.in_ok-optimized_rules_value.ensures c.to_string.ensures.reads_back
