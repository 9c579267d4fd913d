use Rattle.matcher_compiler.proofs.plan.Plan.tight_both.Goals as goal

pub span_both-requires-clause-span : goal.span_both-requires-clause-span
span_both-requires-clause-span c = rw c.in-Some.is at c.in_ok-made.ensures
