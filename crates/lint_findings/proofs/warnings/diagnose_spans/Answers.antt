use Rattle.lint_findings.proofs.Zips.{reported_code}
use Rattle.lint_findings.proofs.warnings.diagnose_spans.Goals as goal

pub returns : goal.returns
returns c = reported_code c.args.code c.in_ok-spans.spans.items _ c.report_spans.result c.in_ok-spans.ensures (rw c.deref-2.ensures.value at c.report_spans.ensures)
