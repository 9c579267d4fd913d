use Rattle.test_calling.proofs.facts.tokens_of_atomic_rules.Goals as goal
use Rattle.test_calling.proofs.WhatTheyDo.{tokens_of_atomic_rules}

pub returns : goal.returns
returns c = λ classes. tokens_of_atomic_rules classes
