use Rattle.front_stack_domain.proofs.stack.marks.+same.Given as goal

abbrev pub decreases-same : goal.decreases-same
decreases-same l = l.count
