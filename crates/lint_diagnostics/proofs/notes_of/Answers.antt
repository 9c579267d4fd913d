use Rattle.front_spanned.specs.Nodes.{piece_of}
use Rattle.lint_diagnostics.proofs.Listing.{one_note}
use Rattle.lint_diagnostics.proofs.notes_of.Goals as goal

pub returns : goal.returns
returns c =
    one_note c.args.comparer.now.grammar.now (piece_of c.args.name) c.push.new.self.items c.new-notes.result.items _ c.in_ok-push.ensures.items c.new-notes.ensures.items
    (rw (c.in-Some.is, c.as_str.ensures) at c.in_ok-message.ensures)
