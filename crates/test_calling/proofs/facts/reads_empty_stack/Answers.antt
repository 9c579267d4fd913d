use Rattle.test_calling.proofs.facts.reads_empty_stack.Goals as goal
use Rattle.test_calling.proofs.WhatTheyDo.{reads_empty_stack}

pub returns : goal.returns
returns c = λ classes. reads_empty_stack classes
