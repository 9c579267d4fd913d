use Rattle.matcher_compiler.proofs.plan.Plan.one_character.Goals as goal

pub character-requires : goal.character-requires
character-requires c = record { ranges = rw c.in-Some.is at c.in_ok-made.ensures }
