use Rattle.test_calling.proofs.facts.compound_comments.Goals as goal
use Rattle.test_calling.proofs.WhatPartsDo.{compound_comments}

pub returns : goal.returns
returns c = λ classes. compound_comments classes
