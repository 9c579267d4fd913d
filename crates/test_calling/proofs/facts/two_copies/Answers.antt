use Rattle.test_calling.proofs.facts.two_copies.Goals as goal
use Rattle.test_calling.proofs.WhatPartsDo.{two_copies}

pub returns : goal.returns
returns c = λ classes. two_copies classes
