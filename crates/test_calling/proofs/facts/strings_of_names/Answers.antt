use Rattle.test_calling.proofs.facts.strings_of_names.Goals as goal
use Rattle.test_calling.proofs.HowTheyAreRewritten.{strings_of_names}

pub returns : goal.returns
returns c = strings_of_names
