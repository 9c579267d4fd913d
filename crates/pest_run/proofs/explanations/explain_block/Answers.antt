use Rattle.base_ast.specs.Optimized.{optimized_rules_of}
use Rattle.pest_run.proofs.explanations.explain_block.Goals as goal

pub returns-in-Ok-Some : goal.returns-in-Ok-Some
returns-in-Ok-Some c = λ rules is.
    let made = rw c.in-Ok-Some.field-0-is at c.in-Ok-Some.ensures in
    c.explain_compiled.ensures (optimized_rules_of rules) (made rules is)
