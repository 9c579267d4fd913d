use Rattle.std.proofs.Common.{◌∙◌, sym, ap}
use Rattle.pest_lint.specs.Shows.{asked_of, status_of}
use Rattle.pest_lint.proofs.Printing.{no_errors, text_shown}
use Rattle.pest_lint.proofs.lint.print_text.Goals as goal

pub returns-clause-clean : goal.returns-clause-clean
returns-clause-clean g c = λ zero.
    c.in-Ok.ensures.accepted (no_errors (asked_of c.args.settings) c.in-Ok.diagnostics.items (sym (ap (status_of (asked_of c.args.settings)) c.deref-3.ensures.value) ∙ (sym c.status_of.ensures ∙ zero)))

pub returns-clause-shows : goal.returns-clause-shows
returns-clause-shows g c = λ not_two not_four.
    text_shown (asked_of c.args.settings) c.args.style c.args.name.now c.args.text.now c.in-Ok.diagnostics.items c.status_of.result _ _
    c.in-Ok.ensures.diagnosis (c.status_of.ensures ∙ ap (status_of (asked_of c.args.settings)) c.deref-3.ensures.value)
    (rw c.deref.ensures.value at (c.print_all-status.ensures.shows c.in-Ok-new.ensures c.if-status-ne-CLEAN.false))
