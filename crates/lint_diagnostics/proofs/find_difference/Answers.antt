use Rattle.std.specs.Prelude.{chars}
use Rattle.lint_diagnostics.proofs.Listing.{about}
use Rattle.lint_diagnostics.proofs.find_difference.Goals as goal

pub returns-in-Some : goal.returns-in-Some
returns-in-Some c = about c.args.comparer.now.grammar.now (chars c.args.rule.now) c.in-Some.difference c.message.result (rw c.in-Some.is at c.in_ok-difference.ensures) c.message.ensures.text
