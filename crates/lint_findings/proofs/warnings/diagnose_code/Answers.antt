use Rattle.std.proofs.Common.{◌∙◌, map, subst, sym}
use Rattle.std.specs.List.{AllZip}
use Rattle.lint_findings.specs.Codes.{warning}
use Rattle.lint_findings.specs.Reports.{ReportsWarning}
use Rattle.lint_findings.proofs.Zips.{no_spans}
use Rattle.front_spanned.specs.Nodes.{rule_views}
use Rattle.lint_warnings.specs.Lists.{texts_of}
use Rattle.lint_findings.proofs.warnings.diagnose_code.Goals as goal

pub returns-in-Error : goal.returns-in-Error
returns-in-Error c =
    let none = no_spans c.args.code (texts_of c.args.starts.now) (rule_views c.args.rules.now) (sym c.severity.ensures ∙ c.in-Error.is) in
    subst (λ spans. AllZip ReportsWarning (map (warning c.args.code) spans) c.new.result.items) (sym none) (rw c.new.ensures.items tt)
