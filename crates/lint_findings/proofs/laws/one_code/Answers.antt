use Rattle.std.proofs.Common.{◌∙◌, sym}
use Rattle.lint_findings.proofs.OneCode.{is_read}
use Rattle.lint_findings.proofs.laws.one_code.Goals as goal

pub returns : goal.returns
returns c = λ message a b h k. is_read message a h ∙ sym (is_read message b k)
