use Rattle.pest_lint.specs.Shows.{asked_of}
use Rattle.pest_lint.proofs.Printing.{clean_status, found_status}
use Rattle.pest_lint.proofs.lint.status_of.Goals as goal

pub returns-then-is_found : goal.returns-then-is_found
returns-then-is_found c = found_status (asked_of c.args.settings) c.args.diagnostics.now _ c.has_counted-is_found.ensures c.if-is_found.true

pub returns-else-is_found : goal.returns-else-is_found
returns-else-is_found c = clean_status (asked_of c.args.settings) c.args.diagnostics.now _ c.has_counted-is_found.ensures c.if-is_found.false
