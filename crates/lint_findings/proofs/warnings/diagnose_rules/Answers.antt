use Rattle.std.proofs.Common.{◌≡◌, ◌∙◌, ap, filter, not}
use Rattle.lint_findings.specs.Codes.{is_optional, warning_codes}
use Rattle.lint_findings.proofs.warnings.diagnose_rules.Goals as goal

pub returns : goal.returns
returns c =
    let codes : c.in_ok-codes.codes.items ≡ warning_codes =
    c.in_ok-codes.ensures ∙ ap (filter (λ k. not (is_optional k))) (c.deref.ensures.value ∙ c.in_ok-all.ensures ∙ c.all_facts.ensures.codes) in
    rw codes at (rw c.deref-2.ensures.value at c.diagnose_codes.ensures)
