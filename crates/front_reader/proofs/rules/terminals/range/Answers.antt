use Rattle.std.proofs.Common.{refl}
use Rattle.std.proofs.lemmas.Result.{err_from_is_err_and}
use Rattle.front_reader.specs.Reading.{leaf}
use Rattle.front_reader.proofs.FlawsInOrder.{first_in}
use Rattle.front_reader.proofs.TreesStandInText.{first_piece, stand_inner, stand_behind}
use Rattle.front_reader.proofs.Terminals.{range_trees}
use Rattle.front_reader.proofs.rules.terminals.range.Goals as goal

pub literal-requires-clause-place : goal.literal-requires-clause-place
literal-requires-clause-place c = let k = stand_inner c.requires.nested in first_piece (rw c.leading_tree-first.ensures at k)

pub literal-requires-clause-shape : goal.literal-requires-clause-shape
literal-requires-clause-shape c =
    let h = range_trees (rw (c.leading_tree-first.ensures, c.leading_tree-dots.ensures, c.leading_tree-last.ensures) at c.requires.shape) in
    h.low_quoted

pub returns-in_err-low : goal.returns-in_err-low
returns-in_err-low c =
    let h = range_trees (rw (c.leading_tree-first.ensures, c.leading_tree-dots.ensures, c.leading_tree-last.ensures) at c.requires.shape) in
    let p = err_from_is_err_and c.from_residual.result c.from_residual.ensures.1 in
    rw (p.1, p.2, c.leading_tree-first.ensures, c.leading_tree-dots.ensures, c.leading_tree-last.ensures, h.flaw c.args.tree.start c.args.tree.end) (first_in _ _ _ (c.in_err-low.ensures))

pub literal-requires-2-clause-place : goal.literal-requires-2-clause-place
literal-requires-2-clause-place c =
    let k = stand_inner c.requires.nested in
    first_piece (stand_behind (stand_behind (rw (c.leading_tree-first.ensures, c.leading_tree-dots.ensures, c.leading_tree-last.ensures) at k)))

pub literal-requires-2-clause-shape : goal.literal-requires-2-clause-shape
literal-requires-2-clause-shape c =
    let h = range_trees (rw (c.leading_tree-first.ensures, c.leading_tree-dots.ensures, c.leading_tree-last.ensures) at c.requires.shape) in
    h.high_quoted

pub returns-in_err-high : goal.returns-in_err-high
returns-in_err-high c =
    let h = range_trees (rw (c.leading_tree-first.ensures, c.leading_tree-dots.ensures, c.leading_tree-last.ensures) at c.requires.shape) in
    let p = err_from_is_err_and c.from_residual-in_err-high.result c.from_residual-in_err-high.ensures.1 in
    let e = c.in_ok-low.ensures in
    rw (p.1, p.2, c.leading_tree-first.ensures, c.leading_tree-dots.ensures, c.leading_tree-last.ensures, h.flaw c.args.tree.start c.args.tree.end, e.0) (c.in_err-high.ensures)

pub span_of-requires : goal.span_of-requires
span_of-requires c = first_piece c.requires.nested

pub returns : goal.returns
returns c =
    let h = range_trees (rw (c.leading_tree-first.ensures, c.leading_tree-dots.ensures, c.leading_tree-last.ensures) at c.requires.shape) in
    let e = c.in_ok-low.ensures in
    let f = c.in_ok-high.ensures in
    rw (c.leading_tree-first.ensures, c.leading_tree-dots.ensures, c.leading_tree-last.ensures)
    (rw (h.flaw c.args.tree.start c.args.tree.end, e.0, f.0) refl, rw (c.span_of.ensures, e.1, f.1) (leaf (h.reads c.args.tree.start c.args.tree.end)))
