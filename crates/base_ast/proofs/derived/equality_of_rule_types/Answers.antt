use denote.Enum.Bare.{same_true, true_same}
use Rattle.base_ast.specs.contracts.ast.RuleType.{the_type}
use Rattle.base_ast.proofs.derived.equality_of_rule_types.Goals as goal

pub returns : goal.returns
returns c = λ a b. (λ h. same_true the_type tt a b h, λ e. true_same the_type a b e)
