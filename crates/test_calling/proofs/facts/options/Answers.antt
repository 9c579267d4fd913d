use Rattle.test_calling.proofs.facts.options.Goals as goal
use Rattle.test_calling.proofs.WhatPartsDo.{options}

pub returns : goal.returns
returns c = λ classes. options classes
