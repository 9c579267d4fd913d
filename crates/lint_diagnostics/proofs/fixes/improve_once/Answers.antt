use Rattle.std.proofs.Common.{rules, string_bytes}
use Rattle.lint_diagnostics.proofs.Improving.{better_by, improved_by}
use Rattle.lint_findings.specs.Fixes.{IsApplied}
use Rattle.lint_warnings.specs.Lists.{texts_of}
use Rattle.lint_diagnostics.proofs.fixes.improve_once.Goals as goal

pub returns-clause-better : goal.returns-clause-better
returns-clause-better c =
    let starts = texts_of c.args.options.starts.now in
    let text = string_bytes c.args.draft.now.text in
    let next = string_bytes c.in-Some-2.text in
    let applied : IsApplied text c.in-Some.fix.now next = rw c.as_str.ensures.value at (rw c.in-Some-2.is at c.in_ok-text.ensures) in
    let progress = rw (c.deref-2.ensures.value, c.deref-3.ensures.value) at (c.is_progress.ensures (search rules)) in
    improved_by c.args.takes_unsafe starts text next c.in-Some.fix.now (search rules) applied
    (better_by starts text next c.args.draft.now.diagnostics.items c.in_ok-diagnostics.diagnostics.items c.requires (rw c.as_str-2.ensures.value at c.in_ok-diagnostics.ensures.diagnosis)
    (rw c.as_str-2.ensures.value at c.in_ok-diagnostics.ensures.accepted) progress)
