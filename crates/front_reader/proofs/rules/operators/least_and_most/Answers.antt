use Rattle.std.proofs.Common.{refl}
use Rattle.std.proofs.lemmas.Result.{err_from_is_err_and}
use Rattle.front_reader.proofs.FlawsInOrder.{first_in}
use Rattle.front_reader.proofs.Operators.{two_trees, first_of_two, no_comma, no_second}
use Rattle.front_reader.proofs.TreesStandInText.{first_piece, stand_behind}
use Rattle.front_reader.proofs.rules.operators.least_and_most.Goals as goal

pub number-requires : goal.number-requires
number-requires c =
    let h = first_of_two (rw (c.leading_tree-brace.ensures, c.leading_tree-first.ensures) at c.requires.shape) in
    let k = rw (c.leading_tree-brace.ensures, c.leading_tree-first.ensures) at c.requires.nested in
    record { place = first_piece (stand_behind k); digits = h.digits }

pub returns-in_err-least : goal.returns-in_err-least
returns-in_err-least c =
    let h = first_of_two (rw (c.leading_tree-brace.ensures, c.leading_tree-first.ensures) at c.requires.shape) in
    let p = err_from_is_err_and c.from_residual.result c.from_residual.ensures.1 in
    rw (c.leading_tree-brace.ensures, c.leading_tree-first.ensures, h.flaw, p.1, p.2) (first_in _ h.behind _ c.in_err-least.ensures)

pub leading_tree-comma-requires : goal.leading_tree-comma-requires
leading_tree-comma-requires c = λ z. no_comma (rw (c.leading_tree-brace.ensures, c.leading_tree-first.ensures, z) at c.requires.shape)

pub leading_tree-second-requires : goal.leading_tree-second-requires
leading_tree-second-requires c = λ z.
    no_second (rw (c.leading_tree-brace.ensures, c.leading_tree-first.ensures, c.leading_tree-comma.ensures, z) at c.requires.shape)

pub count-requires : goal.count-requires
count-requires c =
    let h = two_trees (rw (c.leading_tree-brace.ensures, c.leading_tree-first.ensures, c.leading_tree-comma.ensures, c.leading_tree-second.ensures) at c.requires.shape) in
    let k = rw (c.leading_tree-brace.ensures, c.leading_tree-first.ensures, c.leading_tree-comma.ensures, c.leading_tree-second.ensures) at c.requires.nested in
    record { place = first_piece (stand_behind (stand_behind (stand_behind k))); digits = h.most }

pub returns-in_err-most : goal.returns-in_err-most
returns-in_err-most c =
    let h = two_trees (rw (c.leading_tree-brace.ensures, c.leading_tree-first.ensures, c.leading_tree-comma.ensures, c.leading_tree-second.ensures) at c.requires.shape) in
    let p = err_from_is_err_and c.from_residual-in_err-most.result c.from_residual-in_err-most.ensures.1 in
    rw (c.leading_tree-brace.ensures, c.leading_tree-first.ensures, c.leading_tree-comma.ensures, c.leading_tree-second.ensures, h.flaw, c.in_ok-least.ensures.0, p.1, p.2) c.in_err-most.ensures

pub returns : goal.returns
returns c =
    let h = two_trees (rw (c.leading_tree-brace.ensures, c.leading_tree-first.ensures, c.leading_tree-comma.ensures, c.leading_tree-second.ensures) at c.requires.shape) in
    rw (c.leading_tree-brace.ensures, c.leading_tree-first.ensures, c.leading_tree-comma.ensures, c.leading_tree-second.ensures)
    (rw (h.flaw, c.in_ok-least.ensures.0, c.in_ok-most.ensures.0) refl, h.says c.in_ok-least.least c.in_ok-most.most c.in_ok-least.ensures.1 c.in_ok-most.ensures.1)
