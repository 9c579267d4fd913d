use Rattle.lint_findings.proofs.names.is_keyword.Goals as goal

pub returns : goal.returns
returns c = rw c.edition_keywords.ensures at c.is_among.ensures
