use Rattle.front_reader.proofs.rules.consume_rules_with_spans.Goals as goal

pub consume_forest_with_spans-requires : goal.consume_forest_with_spans-requires
consume_forest_with_spans-requires c = rw (c.in_ok-forest.ensures.text, c.in_ok-forest.ensures.trees) c.requires

pub returns-clause-rules : goal.returns-clause-rules
returns-clause-rules c = rw (c.in_ok-forest.ensures.text, c.in_ok-forest.ensures.trees) at c.consume_forest_with_spans.ensures.rules

pub returns-clause-flawless : goal.returns-clause-flawless
returns-clause-flawless c = rw (c.in_ok-forest.ensures.text, c.in_ok-forest.ensures.trees) at c.consume_forest_with_spans.ensures.flawless

pub returns-clause-refused : goal.returns-clause-refused
returns-clause-refused c = rw (c.in_ok-forest.ensures.text, c.in_ok-forest.ensures.trees) at c.consume_forest_with_spans.ensures.refused
