use Rattle.base_language.specs.contracts.grammar.RuleOrd.TheImpl.Laws.{matches_partial_cmp-law}
use Rattle.base_language.proofs.derived.order_of_rules.Goals as goal
use Rattle.base_language.proofs.Comparisons.{all_listed, rules_as_places}

pub returns-clause-listed : goal.returns-clause-listed
returns-clause-listed c = all_listed

pub returns-clause-cmp : goal.returns-clause-cmp
returns-clause-cmp c = rules_as_places

pub returns-clause-partial_cmp : goal.returns-clause-partial_cmp
returns-clause-partial_cmp c = matches_partial_cmp-law
