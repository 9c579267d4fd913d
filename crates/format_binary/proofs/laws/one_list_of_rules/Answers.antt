use Rattle.format_binary.proofs.Decoding.{rules_are_one}
use Rattle.format_binary.proofs.laws.one_list_of_rules.Goals as goal

pub returns : goal.returns
returns c = rules_are_one
