use Rattle.lint_diagnostics.proofs.Ends.{of_failure, of_match}
use Rattle.lint_diagnostics.proofs.comparer.end_of.Goals as goal

pub returns-in-Ok : goal.returns-in-Ok
returns-in-Ok c = λ g of. of_match g c.args.rule.now c.args.text.now c.in-Ok.found (c.in-Ok.ensures.matched g of)

pub returns-in-Err-NoMatch : goal.returns-in-Err-NoMatch
returns-in-Err-NoMatch c = λ g of.
    of_failure g c.args.rule.now c.args.text.now _ ((rw c.in-Err-NoMatch.field-0-is at c.in-Err-NoMatch.ensures.refused) g of)
