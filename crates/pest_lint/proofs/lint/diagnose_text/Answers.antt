use Rattle.std.proofs.Common.{◌∙◌, sym, ap}
use Rattle.lint_findings.specs.Reports.{is_error}
use Rattle.std.specs.List.{list_any}
use Rattle.pest_lint.specs.Shows.{asked_of}
use Rattle.pest_lint.proofs.Printing.{errors_shown}
use Rattle.pest_lint.proofs.lint.diagnose_text.Goals as goal

pub returns-clause-diagnosis : goal.returns-clause-diagnosis
returns-clause-diagnosis c = record {
  whole = c.in_ok-diagnostics.diagnostics.items;
  diagnosis = c.in_ok-diagnostics.ensures.diagnosis;
  shown = c.retain_shown.ensures;
}

pub returns-clause-accepted : goal.returns-clause-accepted
returns-clause-accepted c = λ none.
    c.in_ok-diagnostics.ensures.accepted (sym (errors_shown (asked_of c.args.settings) c.in_ok-diagnostics.diagnostics.items) ∙ (sym (ap (list_any is_error) c.retain_shown.ensures) ∙ none))
