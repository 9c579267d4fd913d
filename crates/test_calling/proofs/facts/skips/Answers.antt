use Rattle.test_calling.proofs.facts.skips.Goals as goal
use Rattle.test_calling.proofs.WhatTheyDo.{skips_to}

pub returns : goal.returns
returns c = λ classes. skips_to classes
