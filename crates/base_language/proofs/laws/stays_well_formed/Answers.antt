use Rattle.base_language.proofs.ListingKeepsGrammars.{finished_plain, finished_well_formed, listing_finishes, restoring_finishes}
use Rattle.base_language.proofs.StepsKeepGrammars.{plain_along, well_formed_along}
use Rattle.base_language.proofs.laws.stays_well_formed.Goals as goal

pub returns-clause-steps : goal.returns-clause-steps
returns-clause-steps c = well_formed_along

pub returns-clause-listing : goal.returns-clause-listing
returns-clause-listing c = λ g h e. finished_well_formed g h (listing_finishes g h e)

pub returns-clause-wrappers : goal.returns-clause-wrappers
returns-clause-wrappers c = λ g h e. finished_well_formed g h (restoring_finishes g h e)

pub returns-clause-steps_plain : goal.returns-clause-steps_plain
returns-clause-steps_plain c = plain_along

pub returns-clause-listing_plain : goal.returns-clause-listing_plain
returns-clause-listing_plain c = λ g h e. finished_plain g h (listing_finishes g h e)

pub returns-clause-wrappers_plain : goal.returns-clause-wrappers_plain
returns-clause-wrappers_plain c = λ g h e. finished_plain g h (restoring_finishes g h e)
