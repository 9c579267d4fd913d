-- The facts on the listing and on strings.
use Rattle.std.proofs.Common.{refl}
use Rattle.base_language.specs.Rewritings.Rewriting.{one, named, more, name}
use Rattle.test_calling.specs.SmallRewritings.{ListingIsComputed, StringsOfNames}

pub listing_is_computed : ListingIsComputed
listing_is_computed = record { body = refl; grammar = refl }

pub strings_of_names : StringsOfNames
strings_of_names = more name (named refl one) (named refl one)
