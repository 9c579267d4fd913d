use Rattle.front_stack_domain.proofs.stack.marks.+are_blank.Given as goal

abbrev pub decreases-are_blank : goal.decreases-are_blank
decreases-are_blank l = l.count
