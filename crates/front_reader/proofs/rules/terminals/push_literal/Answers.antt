use Rattle.std.proofs.Common.{refl}
use Rattle.std.proofs.lemmas.Result.{err_from_is_err_and}
use Rattle.front_reader.proofs.TreesStandInText.{first_piece, stand_inner, stand_behind}
use Rattle.front_reader.proofs.Terminals.{push_literal_trees}
use Rattle.front_reader.proofs.rules.terminals.push_literal.Goals as goal

pub literal-requires-clause-place : goal.literal-requires-clause-place
literal-requires-clause-place c =
    let k = stand_inner c.requires.nested in
    first_piece (stand_behind (rw (c.leading_tree-paren.ensures, c.leading_tree-string.ensures) at k))

pub literal-requires-clause-shape : goal.literal-requires-clause-shape
literal-requires-clause-shape c =
    let h = push_literal_trees (rw (c.leading_tree-paren.ensures, c.leading_tree-string.ensures) at c.requires.shape) in
    h.quoted

pub returns-in_err-read : goal.returns-in_err-read
returns-in_err-read c =
    let h = push_literal_trees (rw (c.leading_tree-paren.ensures, c.leading_tree-string.ensures) at c.requires.shape) in
    let p = err_from_is_err_and c.from_residual.result c.from_residual.ensures.1 in
    rw (p.1, p.2, c.leading_tree-paren.ensures, c.leading_tree-string.ensures, h.flaw c.args.tree.start c.args.tree.end) c.in_err-read.ensures

pub span_of-requires : goal.span_of-requires
span_of-requires c =
    let k = stand_inner c.requires.nested in
    first_piece (stand_behind (rw (c.leading_tree-paren.ensures, c.leading_tree-string.ensures) at k))

pub returns : goal.returns
returns c =
    let h = push_literal_trees (rw (c.leading_tree-paren.ensures, c.leading_tree-string.ensures) at c.requires.shape) in
    let e = c.in_ok-read.ensures in
    rw (c.leading_tree-paren.ensures, c.leading_tree-string.ensures)
    (rw (h.flaw c.args.tree.start c.args.tree.end, e.0) refl, rw (c.span_of.ensures, e.1) (h.reads c.args.tree.start c.args.tree.end))
