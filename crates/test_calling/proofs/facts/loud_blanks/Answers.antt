use Rattle.test_calling.proofs.facts.loud_blanks.Goals as goal
use Rattle.test_calling.proofs.WhatTheyDo.{blanks_of_loud}

pub returns : goal.returns
returns c = λ classes. blanks_of_loud classes
