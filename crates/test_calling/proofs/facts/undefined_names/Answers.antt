use Rattle.test_calling.proofs.facts.undefined_names.Goals as goal
use Rattle.test_calling.proofs.WhatTheyDo.{undefined_names}

pub returns : goal.returns
returns c = λ classes. undefined_names classes
