use Rattle.test_calling.proofs.facts.listing_differs.Goals as goal
use Rattle.test_calling.proofs.WhatTheyDo.{differs}

pub returns : goal.returns
returns c = differs
