use Rattle.front_stack_domain.proofs.stack.marks.+both.Given as goal

abbrev pub decreases-both : goal.decreases-both
decreases-both l = l.count
