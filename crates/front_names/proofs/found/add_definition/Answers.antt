use Rattle.front_names.proofs.found.add_definition.Goals as goal

pub add_own_name-requires : goal.add_own_name-requires
add_own_name-requires c = rw c.in-Some.ensures at c.requires
