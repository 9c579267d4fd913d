use Rattle.server_features.proofs.formatting.edit_to.Goals as goal

pub returns : goal.returns
returns c = rw c.part_of.ensures at c.edit_at.ensures
