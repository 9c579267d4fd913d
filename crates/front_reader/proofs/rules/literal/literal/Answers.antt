use Rattle.front_reader.proofs.TreesStandInText.{first_piece, stand_behind}
use Rattle.front_reader.proofs.rules.literal.literal.Goals as goal

pub text_of-requires : goal.text_of-requires
text_of-requires c =
    let h = rw (c.leading_tree-quote.ensures, c.leading_tree-inside.ensures) at c.requires.nested in
    first_piece (stand_behind h)
