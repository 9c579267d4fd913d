use Rattle.front_reader.proofs.rules.consume_forest_with_spans.Goals as goal

pub returns-in-Err-clause-refused : goal.returns-in-Err-clause-refused
returns-in-Err-clause-refused c = c.refusal.ensures _ c.in-Err.ensures.refused
