use Rattle.test_calling.proofs.facts.counts_by_mode.Goals as goal
use Rattle.test_calling.proofs.WhatCounts.{counts_by_mode}

pub returns : goal.returns
returns c = λ classes. counts_by_mode classes
