use Rattle.base_language.proofs.ListingKeepsGrammars.{listing_finishes, finished_well_formed, finished_plain, finished_grammar, finished_readable, finished_names_readable}
use Rattle.base_language.proofs.laws.listing_keeps_grammars.Goals as goal

pub returns-clause-well_formed : goal.returns-clause-well_formed
returns-clause-well_formed c = λ g h e. finished_well_formed g h (listing_finishes g h e)

pub returns-clause-plain : goal.returns-clause-plain
returns-clause-plain c = λ g h e. finished_plain g h (listing_finishes g h e)

pub returns-clause-grammar : goal.returns-clause-grammar
returns-clause-grammar c = λ g h e. finished_grammar g h (listing_finishes g h e)

pub returns-clause-counts : goal.returns-clause-counts
returns-clause-counts c = λ g h e. finished_readable g h (listing_finishes g h e)

pub returns-clause-counts_by_name : goal.returns-clause-counts_by_name
returns-clause-counts_by_name c = λ g h e. finished_names_readable g h (listing_finishes g h e)
