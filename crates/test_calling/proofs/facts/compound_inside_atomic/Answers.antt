use Rattle.test_calling.proofs.facts.compound_inside_atomic.Goals as goal
use Rattle.test_calling.proofs.WhatPartsDo.{compound_inside_atomic}

pub returns : goal.returns
returns c = λ classes. compound_inside_atomic classes
