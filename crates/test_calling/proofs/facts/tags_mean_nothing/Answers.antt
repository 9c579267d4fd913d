use Rattle.test_calling.proofs.facts.tags_mean_nothing.Goals as goal
use Rattle.test_calling.proofs.WhatTagsDo.{tags_mean_nothing}

pub returns : goal.returns
returns c = λ classes. tags_mean_nothing classes
