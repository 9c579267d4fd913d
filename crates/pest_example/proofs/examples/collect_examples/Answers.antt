use Rattle.pest_example.proofs.examples.collect_examples.Goals as goal

pub loop-attempt-preserved : goal.loop-attempt-preserved
loop-attempt-preserved c = λ g of. c.in_ok-try_example.ensures g of (c.loop-attempt.invariant g of)
