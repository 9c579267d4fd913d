use Rattle.format_json.proofs.Depths.{rules_back}
use Rattle.format_json.proofs.rules.rules_text.Goals as goal

pub returns-clause-reads_back : goal.returns-clause-reads_back
returns-clause-reads_back c = rules_back c.args.rules.now _ _ c.in_ok-rules_value.ensures c.to_string.ensures.reads_back
