use Rattle.front_reader.proofs.FlawsInOrder.{answers_as}
use Rattle.front_reader.proofs.Operators.{min_trees}
use Rattle.front_reader.proofs.TreesStandInText.{first_piece, stand_behind}
use Rattle.front_reader.proofs.rules.operators.at_least.Goals as goal

pub number-requires : goal.number-requires
number-requires c =
    let h = min_trees (rw (c.leading_tree-brace.ensures, c.leading_tree-least.ensures) at c.requires.shape) in
    let k = rw (c.leading_tree-brace.ensures, c.leading_tree-least.ensures) at c.requires.nested in
    record { place = first_piece (stand_behind k); digits = h.digits }

pub returns : goal.returns
returns c =
    let h = min_trees (rw (c.leading_tree-brace.ensures, c.leading_tree-least.ensures) at c.requires.shape) in
    rw (c.leading_tree-brace.ensures, c.leading_tree-least.ensures) (answers_as _ _ _ _ _ h.flaw h.says c.number.ensures)
