use Rattle.base_language.proofs.laws.listing_keeps_matches.Goals as goal
use Rattle.base_language.proofs.Listing.{listing_keeps}

pub returns : goal.returns
returns c = listing_keeps
