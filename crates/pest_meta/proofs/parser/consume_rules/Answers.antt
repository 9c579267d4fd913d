use Rattle.pest_meta.proofs.parser.consume_rules.Goals as goal

pub consume_forest-requires : goal.consume_forest-requires
consume_forest-requires c = rw (c.in_ok-forest.ensures.text, c.in_ok-forest.ensures.trees) c.requires

pub returns-clause-rules : goal.returns-clause-rules
returns-clause-rules c = rw (c.in_ok-forest.ensures.text, c.in_ok-forest.ensures.trees) at c.consume_forest.ensures.rules

pub returns-clause-refused : goal.returns-clause-refused
returns-clause-refused c = rw (c.in_ok-forest.ensures.text, c.in_ok-forest.ensures.trees) at c.consume_forest.ensures.refused
