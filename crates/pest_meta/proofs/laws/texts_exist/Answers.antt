use Rattle.pest_meta.proofs.Texts.{texts_exist, grammar_texts_exist}
use Rattle.pest_meta.proofs.laws.texts_exist.Goals as goal

pub returns-clause-rule : goal.returns-clause-rule
returns-clause-rule c = texts_exist

pub returns-clause-grammar : goal.returns-clause-grammar
returns-clause-grammar c = grammar_texts_exist
