use Rattle.pest_meta.proofs.OneRefusal.{names_first, one_refusal}
use Rattle.pest_meta.proofs.laws.one_refusal.Goals as goal

pub returns-clause-names : goal.returns-clause-names
returns-clause-names c = names_first

pub returns-clause-errors : goal.returns-clause-errors
returns-clause-errors c = one_refusal
