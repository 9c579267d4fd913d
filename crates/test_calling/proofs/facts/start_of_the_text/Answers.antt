use Rattle.test_calling.proofs.facts.start_of_the_text.Goals as goal
use Rattle.test_calling.proofs.WhatPartsDo.{only_at_the_start}

pub returns : goal.returns
returns c = λ classes. only_at_the_start classes
