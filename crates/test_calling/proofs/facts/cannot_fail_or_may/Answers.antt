use Rattle.test_calling.proofs.facts.cannot_fail_or_may.Goals as goal
use Rattle.test_calling.proofs.WhatIsNullable.{cannot_fail_or_may}

pub returns : goal.returns
returns c = cannot_fail_or_may
