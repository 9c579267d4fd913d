use Rattle.std.proofs.Common.{List, string_bytes, subst, ℕ}
use Rattle.pest_run.specs.Outcomes.{ReportsAt}
use Rattle.pest_run.proofs.outcomes.unnamed_outcome.Goals as goal

pub returns-in-Ok-report_at : goal.returns-in-Ok-report_at
returns-in-Ok-report_at c =
    let P : List ℕ → Type 0 = λ m. ReportsAt c.args.name.now c.args.text.now c.args.place m (string_bytes c.in-Ok-report_at.report) in
    subst P c.in-Ok.ensures c.in-Ok-report_at.ensures
