use Rattle.test_calling.proofs.facts.predicate_restores.Goals as goal
use Rattle.test_calling.proofs.WhatTheyDo.{predicate_restores}

pub returns : goal.returns
returns c = λ classes. predicate_restores classes
