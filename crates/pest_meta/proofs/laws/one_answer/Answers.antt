use Rattle.pest_meta.proofs.OneAnswer.{one_list_of_builtins, one_list_of_rules}
use Rattle.pest_meta.proofs.laws.one_answer.Goals as goal

pub returns-clause-builtins : goal.returns-clause-builtins
returns-clause-builtins c = one_list_of_builtins

pub returns-clause-rules : goal.returns-clause-rules
returns-clause-rules c = one_list_of_rules
