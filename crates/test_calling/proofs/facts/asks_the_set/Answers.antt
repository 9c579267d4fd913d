use Rattle.test_calling.proofs.facts.asks_the_set.Goals as goal
use Rattle.test_calling.proofs.WhatPartsDo.{asks_the_set}

pub returns : goal.returns
returns c = λ classes. asks_the_set classes
