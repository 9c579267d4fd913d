use Rattle.front_reader.proofs.rules.read_rules.Goals as goal

pub read_forest-requires : goal.read_forest-requires
read_forest-requires c = rw (c.in_ok-forest.ensures.text, c.in_ok-forest.ensures.trees) c.requires

pub returns-clause-rules : goal.returns-clause-rules
returns-clause-rules c = rw (c.in_ok-forest.ensures.text, c.in_ok-forest.ensures.trees) at c.read_forest.ensures.rules

pub returns-clause-flawless : goal.returns-clause-flawless
returns-clause-flawless c = rw (c.in_ok-forest.ensures.text, c.in_ok-forest.ensures.trees) at c.read_forest.ensures.flawless

pub returns-clause-refused : goal.returns-clause-refused
returns-clause-refused c = rw (c.in_ok-forest.ensures.text, c.in_ok-forest.ensures.trees) at c.read_forest.ensures.refused
