use Rattle.test_calling.proofs.facts.has_none.Goals as goal
use Rattle.test_calling.proofs.WhatTheyDo.{none_at_all}

pub returns : goal.returns
returns c = none_at_all
