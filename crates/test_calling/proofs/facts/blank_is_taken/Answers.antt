use Rattle.test_calling.proofs.facts.blank_is_taken.Goals as goal
use Rattle.test_calling.proofs.WhatTheyDo.{taken}

pub returns : goal.returns
returns c = taken
