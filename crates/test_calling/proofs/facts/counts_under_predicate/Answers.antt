use Rattle.test_calling.proofs.facts.counts_under_predicate.Goals as goal
use Rattle.test_calling.proofs.WhatCounts.{counts_under_predicate}

pub returns : goal.returns
returns c = λ classes. counts_under_predicate classes
