use Rattle.base_ast.specs.Optimized.{optimized_rules_of}
use Rattle.pest_run.proofs.outcomes.block_outcome.Goals as goal

pub returns-in-Ok : goal.returns-in-Ok
returns-in-Ok c = λ rules is.
    let told = rw c.in-Ok-Some.field-0-is at c.in-Ok-Some.ensures in
    c.run_outcome.ensures (optimized_rules_of rules) (told rules is)
