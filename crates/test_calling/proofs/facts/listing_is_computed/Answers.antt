use Rattle.test_calling.proofs.facts.listing_is_computed.Goals as goal
use Rattle.test_calling.proofs.HowTheyAreRewritten.{listing_is_computed}

pub returns : goal.returns
returns c = listing_is_computed
