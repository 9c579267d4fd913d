use Rattle.test_calling.proofs.facts.blank_gives_token.Goals as goal
use Rattle.test_calling.proofs.WhatTheyDo.{blank_gives_token}

pub returns : goal.returns
returns c = λ classes. blank_gives_token classes
