use Rattle.test_calling.proofs.facts.comments_are_skipped.Goals as goal
use Rattle.test_calling.proofs.WhatTheyDo.{comments_are_skipped}

pub returns : goal.returns
returns c = λ classes. comments_are_skipped classes
