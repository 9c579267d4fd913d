use Rattle.std.proofs.Common.{◌≡◌, ◌∙◌, ap, filter}
use Rattle.std.specs.Prelude.{flat_map}
use Rattle.lint_findings.specs.Codes.{is_optional, optional_codes, warnings_of, warnings_with}
use Rattle.lint_findings.specs.Reports.{ReportsWarning}
use Rattle.lint_findings.proofs.Zips.{zip_both}
use Rattle.front_spanned.specs.Nodes.{rule_views}
use Rattle.lint_warnings.specs.Lists.{texts_of}
use Rattle.lint_findings.proofs.warnings.diagnose_all_rules.Goals as goal

pub returns : goal.returns
returns c =
    let starts = texts_of c.args.starts.now in
    let rules = rule_views c.args.rules.now in
    let codes : c.in_ok-codes.codes.items ≡ optional_codes =
    c.in_ok-codes.ensures ∙ ap (filter is_optional) (c.deref.ensures.value ∙ c.in_ok-all.ensures ∙ c.all_facts.ensures.codes) in
    rw c.in_ok-append.ensures.items
    (zip_both ReportsWarning (warnings_of starts rules) (flat_map (warnings_with starts rules) optional_codes) _ _ c.in_ok-diagnostics.ensures
    (rw codes at (rw c.deref-2.ensures.value at c.in_ok-others.ensures)))
