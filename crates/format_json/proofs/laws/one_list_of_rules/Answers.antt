use Rattle.format_json.proofs.Decoding.{optimized_are_one, rules_are_one}
use Rattle.format_json.proofs.laws.one_list_of_rules.Goals as goal

pub returns-clause-rules : goal.returns-clause-rules
returns-clause-rules c = rules_are_one

pub returns-clause-optimized : goal.returns-clause-optimized
returns-clause-optimized c = optimized_are_one
