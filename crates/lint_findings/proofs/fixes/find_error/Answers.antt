use Rattle.lint_findings.proofs.Fixing.{fails_there}
use Rattle.lint_findings.proofs.fixes.find_error.Goals as goal

pub returns-in-Err-Grammar : goal.returns-in-Err-Grammar
returns-in-Err-Grammar c =
    fails_there c.args.text.now c.in-Err-Grammar.errors.items c.place_of.result
    (rw c.in-Err-Grammar.field-0-is at c.in-Err-Grammar.ensures.trees) (rw c.deref.ensures.value at c.place_of.ensures)
