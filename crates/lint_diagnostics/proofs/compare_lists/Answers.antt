use Rattle.std.proofs.Common.{[], ◌∷◌, append_assoc, append-nil}
use Rattle.lint_findings.proofs.Zips.{zip_end, zip_next}
use Rattle.lint_diagnostics.specs.Diagnosis.{ReportsList}
use Rattle.front_spanned.specs.Nodes.{piece_of}
use Rattle.lint_diagnostics.proofs.Listing.{with_notes}
use Rattle.lint_diagnostics.proofs.compare_lists.Goals as goal

pub loop-name-preserved : goal.loop-name-preserved
loop-name-preserved c = λ more each.
    let here = with_notes c.args.comparer.now.grammar.now (piece_of c.name-item.result) c.in_ok-diagnostic.diagnostic c.in_ok-notes.notes c.in_ok-diagnostic.ensures.warning c.in_ok-diagnostic.ensures.notes c.in_ok-notes.ensures in
    rw (c.in_ok-push.ensures.items, append_assoc) (c.loop-name.invariant (c.in_ok-diagnostic.diagnostic ∷ more)
    (zip_next (λ name. ReportsList c.args.comparer.now.grammar.now (piece_of name)) c.args.names.now c.loop-name.name-index c.name-item.result _ more c.name-item.is c.loop-name-test.true here each))

pub returns : goal.returns
returns c = rw append-nil at (c.loop-name.invariant [] (zip_end (λ name. ReportsList c.args.comparer.now.grammar.now (piece_of name)) c.args.names.now c.loop-name.name-index c.loop-name-test.false))
