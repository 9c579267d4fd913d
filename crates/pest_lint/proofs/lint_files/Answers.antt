use Rattle.pest_lint.proofs.lint_files.Goals as goal

pub returns-in-Stream-clause-shows : goal.returns-in-Stream-clause-shows
returns-in-Stream-clause-shows c = λ not_two not_four. rw c.in-Stream.is (c.print_sources.ensures.shows not_two not_four)

pub returns-in-Log-clause-shows : goal.returns-in-Log-clause-shows
returns-in-Log-clause-shows c = λ not_two not_four. rw c.in-Log.is (c.log_files.ensures.logs not_two not_four)
