use Rattle.test_calling.proofs.facts.hex_digits.Goals as goal
use Rattle.test_calling.proofs.WhatPartsDo.{hex_digits}

pub returns : goal.returns
returns c = λ classes. hex_digits classes
