use Rattle.base_language.proofs.StepsKeepGrammars.{grammar_along, readable_along, names_readable_along}
use Rattle.base_language.proofs.laws.steps_keep_grammars.Goals as goal

pub returns-clause-grammar : goal.returns-clause-grammar
returns-clause-grammar c = grammar_along

pub returns-clause-counts : goal.returns-clause-counts
returns-clause-counts c = readable_along

pub returns-clause-counts_by_name : goal.returns-clause-counts_by_name
returns-clause-counts_by_name c = names_readable_along
