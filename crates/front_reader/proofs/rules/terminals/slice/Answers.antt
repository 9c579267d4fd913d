use mir.Val.{SFits}
use Rattle.std.proofs.Common.{rules, w32, ◌∙◌}
use Rattle.std.proofs.lemmas.Int.{to_z-of_z}
use Rattle.std.proofs.lemmas.Result.{err_from_is_err_and}
use Rattle.front_reader.specs.Reading.{leaf}
use Rattle.front_reader.proofs.TreesStandInText.{first_piece, stand_inner, stand_behind}
use Rattle.front_reader.proofs.Terminals.{in_slice, start_number, end_number, to_dots, no_dots, behind_dots, dots_flaw, end_flaw, slice_flaw, slice_reads, takes_standing}
use Rattle.front_reader.proofs.rules.terminals.slice.Goals as goal

pub take_bound-requires-clause-shape : goal.take_bound-requires-clause-shape
take_bound-requires-clause-shape c = (start_number (in_slice (rw c.leading_tree-bracket.ensures at c.requires.shape)))

pub take_bound-requires-clause-nested : goal.take_bound-requires-clause-nested
take_bound-requires-clause-nested c = let k = stand_inner c.requires.nested in (stand_behind (rw c.leading_tree-bracket.ensures at k))

pub returns-in_err-low : goal.returns-in_err-low
returns-in_err-low c =
    let p = err_from_is_err_and c.from_residual.result c.from_residual.ensures.1 in
    rw (p.1, p.2, c.leading_tree-bracket.ensures, slice_flaw c.args.tree.start c.args.tree.end (rw c.leading_tree-bracket.ensures at c.requires.shape)) (c.in_err-low.ensures)

pub leading_tree-dots-requires : goal.leading_tree-dots-requires
leading_tree-dots-requires c = λ z.
    let e = c.in_ok-low.ensures in
    let d = to_dots (in_slice (rw c.leading_tree-bracket.ensures at c.requires.shape)) e.takes in
    no_dots (rw z at d)

pub take_bound-requires-2-clause-shape : goal.take_bound-requires-2-clause-shape
take_bound-requires-2-clause-shape c =
    let e = c.in_ok-low.ensures in
    let d = to_dots (in_slice (rw c.leading_tree-bracket.ensures at c.requires.shape)) e.takes in
    (end_number (behind_dots (rw c.leading_tree-dots.ensures at d)))

pub take_bound-requires-2-clause-nested : goal.take_bound-requires-2-clause-nested
take_bound-requires-2-clause-nested c =
    let k = stand_inner c.requires.nested in
    let e = c.in_ok-low.ensures in
    let m = takes_standing (stand_behind (rw c.leading_tree-bracket.ensures at k)) e.takes in
    (stand_behind (rw c.leading_tree-dots.ensures at m))

pub returns-in_err-high : goal.returns-in_err-high
returns-in_err-high c =
    let p = err_from_is_err_and c.from_residual-in_err-high.result c.from_residual-in_err-high.ensures.1 in
    let e = c.in_ok-low.ensures in
    let d = to_dots (in_slice (rw c.leading_tree-bracket.ensures at c.requires.shape)) e.takes in
    rw (p.1, p.2, c.leading_tree-bracket.ensures, slice_flaw c.args.tree.start c.args.tree.end (rw c.leading_tree-bracket.ensures at c.requires.shape), e.flaws, c.leading_tree-dots.ensures, dots_flaw (rw c.leading_tree-dots.ensures at d))
    (c.in_err-high.ensures)

pub span_of-requires : goal.span_of-requires
span_of-requires c = first_piece c.requires.nested

pub returns : goal.returns
returns c =
    let h = rw c.leading_tree-bracket.ensures at c.requires.shape in
    let e = c.in_ok-low.ensures in
    let m = to_dots (in_slice h) e.takes in
    let d = rw c.leading_tree-dots.ensures at m in
    let k = c.in_ok-high.ensures in
    let f : SFits w32 c.unwrap_or.result = search rules in
    rw (c.leading_tree-bracket.ensures, to_z-of_z w32 c.unwrap_or.result f) (
      slice_flaw c.args.tree.start c.args.tree.end h ∙ e.flaws ∙ rw c.leading_tree-dots.ensures (dots_flaw d ∙ k.flaws ∙ end_flaw (behind_dots d) k.takes),
      rw (c.span_of.ensures, c.unwrap_or.ensures) (leaf (slice_reads c.args.tree.start c.args.tree.end h (rw c.leading_tree-dots.ensures at e.takes) k.takes)),
    )
