use Rattle.matcher_compiler.proofs.plan.Plan.blank_both.Goals as goal

pub trivia_sequence-requires-clause-takes : goal.trivia_sequence-requires-clause-takes
trivia_sequence-requires-clause-takes c = rw c.in-Some.is at c.in_ok-made.ensures
