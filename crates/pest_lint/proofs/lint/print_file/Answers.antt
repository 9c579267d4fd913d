use Rattle.std.proofs.Common.{refl}
use Rattle.pest_lint.specs.Shows.{asked_of}
use Rattle.pest_lint.proofs.Printing.{shown_text, shown_unread}
use Rattle.pest_lint.proofs.lint.print_file.Goals as goal

pub returns-else-status-eq-MEMORY-clause-shows : goal.returns-else-status-eq-MEMORY-clause-shows
returns-else-status-eq-MEMORY-clause-shows g c = λ not_two not_four.
    shown_text (asked_of c.args.settings) c.args.style c.args.source.now _ c.in-Some.text.now c.print_text-status.result _ _
    (c.in-Some.ensures.readable.0 refl) c.as_str.ensures.value c.in-Some.ensures.text (c.print_text-status.ensures.shows not_two not_four)

pub returns-in_default-clause-shows : goal.returns-in_default-clause-shows
returns-in_default-clause-shows g c = λ not_two not_four.
    rw c.report_unreadable.ensures.status (shown_unread (asked_of c.args.settings) c.args.style c.args.source.now _ (λ readable. let some = c.text_of.ensures.readable.1 readable in let bad = rw c.in_default.is at some in cc))
