use Rattle.std.proofs.Common.{◌∙◌, sym}
use Rattle.lint_findings.proofs.Above.{above_viewed}
use Rattle.lint_findings.proofs.allowances.comments_above.Goals as goal

pub returns : goal.returns
returns c = above_viewed c.args.lines.now c.first_of_comments.result (sym c.has_blank_end.ensures.blank ∙ c.if-not-has_blank_end.false) c.first_of_comments.ensures.first
