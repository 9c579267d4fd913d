use Rattle.pest_meta.proofs.opened.parse_forest.Goals as goal

pub returns-in-Ok-clause-forest : goal.returns-in-Ok-clause-forest
returns-in-Ok-clause-forest c = record { of_text = c.in-Ok.ensures.text; of_grammar = c.in-Ok.ensures.spelled }
