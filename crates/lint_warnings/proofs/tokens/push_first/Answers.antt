use Rattle.lint_warnings.proofs.Reached.{first_pushed, no_first}
use Rattle.lint_warnings.proofs.tokens.push_first.Goals as goal

pub returns-in_ok-push-in-Some : goal.returns-in_ok-push-in-Some
returns-in_ok-push-in-Some c =
    first_pushed c.args.found.now.items _ c.args.spans.now c.in-Some.first.now c.in_ok-push-in-Some.ensures.items (rw c.in-Some.is at c.first.ensures.value)

pub returns-in-None : goal.returns-in-None
returns-in-None c = no_first c.args.found.now.items c.args.spans.now (rw c.in-None.is at c.first.ensures.value)
