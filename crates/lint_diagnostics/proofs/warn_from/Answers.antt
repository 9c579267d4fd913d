use Rattle.std.proofs.Common.{◌≡◌, ◌∙◌, IfOk, ap, map, subst}
use Rattle.front_spanned.specs.Nodes.{rule_views}
use Rattle.lint_findings.specs.Fragments.{fragment_of}
use Rattle.lint_findings.specs.Starts.{names_of}
use Rattle.lint_warnings.specs.Lists.{texts_of}
use Rattle.lint_diagnostics.specs.Diagnosis.{ReportRules, all_starts}
use Rattle.lint_diagnostics.proofs.warn_from.Goals as goal

pub returns : goal.returns
returns c =
    let same : texts_of c.deref.result.now ≡ all_starts (texts_of c.args.starts.now) (names_of (map fragment_of c.args.stated.now)) = ap texts_of c.deref.ensures.value ∙ c.in_ok-all.ensures in
    subst (λ starts. IfOk c.warn_of.result (λ ds. ReportRules c.args.has_all starts c.args.text.now (rule_views c.args.rules.now) ds.items)) same c.warn_of.ensures
