use Rattle.front_names.proofs.Trees.{first_order, first_start, first_end}
use Rattle.front_names.proofs.found.add_own_name.Goals as goal

pub place-requires-clause-ordered : goal.place-requires-clause-ordered
place-requires-clause-ordered c = first_order c.requires

pub place-requires-clause-starts_at_character : goal.place-requires-clause-starts_at_character
place-requires-clause-starts_at_character c = first_start c.requires

pub place-requires-clause-ends_at_character : goal.place-requires-clause-ends_at_character
place-requires-clause-ends_at_character c = first_end c.requires
