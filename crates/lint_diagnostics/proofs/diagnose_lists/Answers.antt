use Rattle.lint_diagnostics.proofs.diagnose_lists.Goals as goal

pub returns : goal.returns
returns c = rw c.in_ok-comparer.ensures.grammar at c.compare_lists.ensures
