use Rattle.base_language.proofs.derived.equality_of_rules.Goals as goal
use Rattle.base_language.proofs.Comparisons.{one_rule}

pub returns : goal.returns
returns c = one_rule
