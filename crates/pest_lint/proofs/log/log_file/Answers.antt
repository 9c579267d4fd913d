use Rattle.std.proofs.Common.{refl, ◌∙◌, ℕ, List, sym, ap, subst}
use Rattle.pest_lint.specs.Shows.{asked_of, status_of}
use Rattle.pest_meta.specs.Spelling.{HasAnswer}
use Rattle.pest_lint.proofs.Logging.{read_logged, unread_logged}
use Rattle.pest_lint.proofs.Printing.{no_errors}
use Rattle.pest_lint.proofs.log.log_file.Goals as goal

pub returns-in-Ok-add_results-clause-clean : goal.returns-in-Ok-add_results-clause-clean
returns-in-Ok-add_results-clause-clean g c = λ zero.
    let none = no_errors (asked_of c.args.settings) c.in-Ok.diagnostics.items (sym (ap (status_of (asked_of c.args.settings)) c.deref-in-Ok-add_results.ensures.value) ∙ (sym c.status_of.ensures ∙ zero)) in
    ((c.in-Some.ensures.readable.0 refl).0, subst (λ (t : List ℕ). HasAnswer t) c.in-Some.ensures.text (c.in-Ok.ensures.accepted none))

pub returns-in-Ok-add_results-clause-logs : goal.returns-in-Ok-add_results-clause-logs
returns-in-Ok-add_results-clause-logs g c = λ not_two.
    read_logged (asked_of c.args.settings) c.args.source.now _ c.in-Some.text.now c.in-Ok.diagnostics.items c.status_of.result _ _
    (c.in-Some.ensures.readable.0 refl) c.as_str.ensures.value c.in-Some.ensures.text c.in-Ok.ensures.diagnosis
    (c.status_of.ensures ∙ ap (status_of (asked_of c.args.settings)) c.deref-in-Ok-add_results.ensures.value)
    (rw c.deref.ensures.value at c.in-Ok-add_results.ensures)

pub returns-in_default-clause-logs : goal.returns-in_default-clause-logs
returns-in_default-clause-logs g c = λ not_two.
    rw c.report_unreadable.ensures.status (unread_logged (asked_of c.args.settings) c.args.source.now _ (λ readable. let some = c.text_of.ensures.readable.1 readable in let bad = rw c.in_default.is at some in cc))
