use Rattle.format_json.proofs.NoRules.{no_optimized_rules, no_rules}
use Rattle.format_json.proofs.laws.refused_has_no_rules.Goals as goal

pub returns-clause-rules : goal.returns-clause-rules
returns-clause-rules c = no_rules

pub returns-clause-optimized : goal.returns-clause-optimized
returns-clause-optimized c = no_optimized_rules
