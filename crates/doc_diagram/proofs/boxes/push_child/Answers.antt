use Rattle.std.proofs.Common.{None, Some, append-nil, sym}
use Rattle.doc_diagram.proofs.Lending.{lent}
use Rattle.doc_diagram.proofs.boxes.push_child.Goals as goal

pub returns-in-Some : goal.returns-in-Some
returns-in-Some c =
    rw (
      lent c.args.boxes.now c.args.index (Some c.in-Some.child) c.in-Some.ensures.lookup,
      lent c.args.entries.now c.args.index c.get-in-Some.result c.get-in-Some.ensures.lookup,
    )
    (rw c.copied.ensures at c.push_with_entry.ensures)

pub returns-in-None : goal.returns-in-None
returns-in-None c =
    rw (lent c.args.boxes.now c.args.index None c.in-None.ensures.lookup) (sym (append-nil _))
