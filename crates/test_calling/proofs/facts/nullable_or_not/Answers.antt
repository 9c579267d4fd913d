use Rattle.test_calling.proofs.facts.nullable_or_not.Goals as goal
use Rattle.test_calling.proofs.WhatIsNullable.{nullable_or_not}

pub returns : goal.returns
returns c = nullable_or_not
