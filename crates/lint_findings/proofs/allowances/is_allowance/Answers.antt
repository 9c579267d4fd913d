use Rattle.std.proofs.Common.{codes}
use Rattle.std.proofs.lemmas.Str.Pattern.{starts_text}
use Rattle.lint_findings.proofs.allowances.is_allowance.Goals as goal

pub returns : goal.returns
returns c = starts_text c.starts_with.result (codes "// pest-lint:") c.args.comment.text.now c.starts_with.ensures.cases
