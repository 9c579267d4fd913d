use Rattle.front_reader.proofs.FlawsInOrder.{answers_as}
use Rattle.front_reader.proofs.Operators.{max_trees}
use Rattle.front_reader.proofs.TreesStandInText.{first_piece, stand_behind}
use Rattle.front_reader.proofs.rules.operators.at_most.Goals as goal

pub count-requires : goal.count-requires
count-requires c =
    let h = max_trees (rw (c.leading_tree-brace.ensures, c.leading_tree-comma.ensures, c.leading_tree-most.ensures) at c.requires.shape) in
    let k = rw (c.leading_tree-brace.ensures, c.leading_tree-comma.ensures, c.leading_tree-most.ensures) at c.requires.nested in
    record { place = first_piece (stand_behind (stand_behind k)); digits = h.digits }

pub returns : goal.returns
returns c =
    let h = max_trees (rw (c.leading_tree-brace.ensures, c.leading_tree-comma.ensures, c.leading_tree-most.ensures) at c.requires.shape) in
    rw (c.leading_tree-brace.ensures, c.leading_tree-comma.ensures, c.leading_tree-most.ensures) (answers_as _ _ _ _ _ h.flaw h.says c.count.ensures)
