use Rattle.test_calling.proofs.facts.left_called_or_not.Goals as goal
use Rattle.test_calling.proofs.WhatIsNullable.{left_called_or_not}

pub returns : goal.returns
returns c = left_called_or_not
