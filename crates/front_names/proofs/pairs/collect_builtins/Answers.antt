use Rattle.front_names.proofs.pairs.collect_builtins.Goals as goal

pub returns-clause-no_complaints : goal.returns-clause-no_complaints
returns-clause-no_complaints c = rw (c.in_ok-forest.ensures.text, c.in_ok-forest.ensures.trees) at c.collect_in_forest.ensures.no_complaints

pub returns-clause-builtins : goal.returns-clause-builtins
returns-clause-builtins c = rw (c.in_ok-forest.ensures.text, c.in_ok-forest.ensures.trees) at c.collect_in_forest.ensures.builtins

pub returns-clause-refused : goal.returns-clause-refused
returns-clause-refused c = rw (c.in_ok-forest.ensures.text, c.in_ok-forest.ensures.trees) at c.collect_in_forest.ensures.refused
