use Rattle.test_calling.proofs.facts.later_turns_fail.Goals as goal
use Rattle.test_calling.proofs.WhatPartsDo.{later_turns_fail}

pub returns : goal.returns
returns c = λ classes. later_turns_fail classes
