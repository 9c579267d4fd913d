use Rattle.std.proofs.Common.{refl}
use Rattle.lint_findings.proofs.facts.all_facts.Goals as goal

pub returns : goal.returns
returns c = record { codes = refl; names = refl; reports = refl; messages = refl }
