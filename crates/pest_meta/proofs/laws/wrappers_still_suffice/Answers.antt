use Rattle.base_language.proofs.ListingKeepsGrammars.{listing_finishes, restoring_finishes}
use Rattle.pest_meta.proofs.NothingNew.{finished_suffice, steps_suffice}
use Rattle.pest_meta.proofs.laws.wrappers_still_suffice.Goals as goal

pub returns-clause-steps : goal.returns-clause-steps
returns-clause-steps c = steps_suffice

pub returns-clause-listing : goal.returns-clause-listing
returns-clause-listing c = λ g h e. finished_suffice g h (listing_finishes g h e)

pub returns-clause-wrappers : goal.returns-clause-wrappers
returns-clause-wrappers c = λ g h e. finished_suffice g h (restoring_finishes g h e)
