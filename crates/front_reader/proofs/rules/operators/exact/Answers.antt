use Rattle.front_reader.proofs.FlawsInOrder.{answers_as}
use Rattle.front_reader.proofs.Operators.{exact_trees}
use Rattle.front_reader.proofs.TreesStandInText.{first_piece, stand_behind}
use Rattle.front_reader.proofs.rules.operators.exact.Goals as goal

pub count-requires : goal.count-requires
count-requires c =
    let h = exact_trees (rw (c.leading_tree-brace.ensures, c.leading_tree-times.ensures) at c.requires.shape) in
    let k = rw (c.leading_tree-brace.ensures, c.leading_tree-times.ensures) at c.requires.nested in
    record { place = first_piece (stand_behind k); digits = h.digits }

pub returns : goal.returns
returns c =
    let h = exact_trees (rw (c.leading_tree-brace.ensures, c.leading_tree-times.ensures) at c.requires.shape) in
    rw (c.leading_tree-brace.ensures, c.leading_tree-times.ensures) (answers_as _ _ _ _ _ h.flaw h.says c.count.ensures)
