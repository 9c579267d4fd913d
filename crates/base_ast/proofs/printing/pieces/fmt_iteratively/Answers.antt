use Rattle.std.proofs.Common.{◌++◌, ◌∷◌, [], ap, ◌∙◌, arith, rules}
use Rattle.std.proofs.Output.{has_written_append}
use Rattle.base_ast.specs.Pieces.{bytes_at}
use Rattle.base_ast.specs.declared.printing.pieces.Piece.TheVariants as piece
use Rattle.base_ast.proofs.Pieces.{one_piece_more, one_piece_apart, load_of_one_less}
use Rattle.base_ast.proofs.printing.pieces.fmt_iteratively.Goals as goal

pub loop-piece-smaller-in-Continue-branch-2 : goal.loop-piece-smaller-in-Continue-branch-2
loop-piece-smaller-in-Continue-branch-2 g c =
    let loads = load_of_one_less g.E.Printed.bytes g.E.Printed.heft _ _ _ _ c.in-Some.ensures.items c.in-Sign.is in omega (arith, loads)

pub loop-piece-preserved-in-Continue-branch-2 : goal.loop-piece-preserved-in-Continue-branch-2
loop-piece-preserved-in-Continue-branch-2 g c plain =
    let (done, before, whole) = c.loop-piece.invariant plain in
    let items = c.in-Some.ensures.items ∙ ap (λ p. c.pop.new.self.items ++ (p ∷ [])) c.in-Sign.is in
    let written = c.write_str.ensures.writes before.plain (search rules) in (
      _,
      has_written_append _ _ _ _ _ _ before written,
      one_piece_more g.E.Printed.bytes g.E.Printed.heft done _ c.loop-piece.pieces.items c.pop.new.self.items (piece.Sign c.in-Sign.sign) whole items,
    )

pub loop-piece-smaller-in-Continue-branch-3 : goal.loop-piece-smaller-in-Continue-branch-3
loop-piece-smaller-in-Continue-branch-3 g c =
    let loads = load_of_one_less g.E.Printed.bytes g.E.Printed.heft _ _ _ _ c.in-Some.ensures.items c.in-Counts.is in omega (arith, loads)

pub loop-piece-preserved-in-Continue-branch-3 : goal.loop-piece-preserved-in-Continue-branch-3
loop-piece-preserved-in-Continue-branch-3 g c plain =
    let (done, before, whole) = c.loop-piece.invariant plain in
    let items = c.in-Some.ensures.items ∙ ap (λ p. c.pop.new.self.items ++ (p ∷ [])) c.in-Counts.is in
    let written = c.fmt_counts.ensures before.plain (search rules) in (
      _,
      has_written_append _ _ _ _ _ _ before written,
      one_piece_more g.E.Printed.bytes g.E.Printed.heft done _ c.loop-piece.pieces.items c.pop.new.self.items (piece.Counts c.in-Counts.counts) whole items,
    )

pub loop-piece-smaller-in-Continue-branch-4 : goal.loop-piece-smaller-in-Continue-branch-4
loop-piece-smaller-in-Continue-branch-4 g c =
    let loads = load_of_one_less g.E.Printed.bytes g.E.Printed.heft _ _ _ _ c.in-Some.ensures.items c.in-Leaf.is in omega (arith, loads)

pub loop-piece-preserved-in-Continue-branch-4 : goal.loop-piece-preserved-in-Continue-branch-4
loop-piece-preserved-in-Continue-branch-4 g c plain =
    let (done, before, whole) = c.loop-piece.invariant plain in
    let items = c.in-Some.ensures.items ∙ ap (λ p. c.pop.new.self.items ++ (p ∷ [])) c.in-Leaf.is in
    let written = c.fmt_leaf.ensures before.plain (search rules) in (
      _,
      has_written_append _ _ _ _ _ _ before written,
      one_piece_more g.E.Printed.bytes g.E.Printed.heft done _ c.loop-piece.pieces.items c.pop.new.self.items (piece.Leaf c.in-Leaf.leaf) whole items,
    )

pub loop-piece-smaller : goal.loop-piece-smaller
loop-piece-smaller g c =
    let loads = load_of_one_less g.E.Printed.bytes g.E.Printed.heft _ _ _ _ c.in-Some.ensures.items c.in-Part.is in
    let bounded = c.in_ok-put_parts-in-Part.ensures.bounded in
    let lighter = c.parts.ensures.lighter in
    omega (arith, loads, bounded, lighter)

pub loop-piece-preserved : goal.loop-piece-preserved
loop-piece-preserved g c plain =
    let (done, before, whole) = c.loop-piece.invariant plain in
    let items = c.in-Some.ensures.items ∙ ap (λ p. c.pop.new.self.items ++ (p ∷ [])) c.in-Part.is in (
      done,
      before,
      one_piece_apart g.E.Printed.bytes g.E.Printed.heft done _ c.loop-piece.pieces.items c.pop.new.self.items _ (piece.Part c.in-Part.place c.in-Part.part) _ _ whole items c.in_ok-put_parts-in-Part.ensures (ap (bytes_at c.in-Part.place) c.parts.ensures.bytes),
    )
