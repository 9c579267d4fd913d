use Rattle.lint_diagnostics.proofs.comparer.find_first.Goals as goal

pub returns-in-Some : goal.returns-in-Some
returns-in-Some c = λ g h a b. rw c.in-Some.is at (c.in_ok-difference.ensures g h a b)
