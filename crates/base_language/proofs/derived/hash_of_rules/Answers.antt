use Rattle.std.proofs.Common.{ap}
use Rattle.std.specs.Hash as fed
use Rattle.base_language.proofs.derived.hash_of_rules.Goals as goal
use Rattle.base_language.proofs.Comparisons.{rule_at}

pub returns : goal.returns
returns c = λ r i h. ap fed.usize (rule_at r i h)
