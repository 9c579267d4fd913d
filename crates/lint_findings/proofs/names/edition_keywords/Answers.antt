use Rattle.std.proofs.Common.{refl}
use Rattle.lint_findings.specs.Names.{edition_keywords}
use Rattle.lint_findings.proofs.names.edition_keywords.Goals as goal

pub returns : goal.returns
unfolding edition_keywords
returns c = refl
