use Rattle.test_calling.proofs.facts.newlines.Goals as goal
use Rattle.test_calling.proofs.WhatTheyDo.{newlines}

pub returns : goal.returns
returns c = λ classes. newlines classes
