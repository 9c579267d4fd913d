use Rattle.std.proofs.lemmas.Str.Pattern.{starts_text}
use Rattle.lint_findings.specs.Starts.{start_prefix}
use Rattle.lint_findings.proofs.starts.has_starts.Goals as goal

pub returns : goal.returns
returns c = starts_text c.starts_with.result start_prefix c.args.line.text.now c.starts_with.ensures.cases
