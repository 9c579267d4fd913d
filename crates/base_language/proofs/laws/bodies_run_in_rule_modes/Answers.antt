use Rattle.base_language.proofs.RuleModes.{runs_in_rule_mode}
use Rattle.base_language.proofs.laws.bodies_run_in_rule_modes.Goals as goal

pub returns : goal.returns
returns c = runs_in_rule_mode
