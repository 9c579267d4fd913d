use Rattle.std.proofs.Common.{inr}
use Rattle.base_ast.specs.Optimized.{optimized_rules_of}
use Rattle.pest_run.proofs.run.form_outcome.Goals as goal

pub returns-in-Ok : goal.returns-in-Ok
returns-in-Ok c = λ spelled read.
    let comes = rw c.deref.ensures.value at c.outcome_of-outcome.ensures in
    inr (optimized_rules_of c.in-Ok.rules.items, c.in-Ok.ensures.rules spelled read, comes)
