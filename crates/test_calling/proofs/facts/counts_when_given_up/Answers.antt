use Rattle.test_calling.proofs.facts.counts_when_given_up.Goals as goal
use Rattle.test_calling.proofs.WhatCounts.{counts_when_given_up}

pub returns : goal.returns
returns c = λ classes. counts_when_given_up classes
