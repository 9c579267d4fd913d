use Rattle.std.proofs.Common.{◌≡◌, vec_len}
use Rattle.std.specs.Prelude.{All}
use Rattle.base_language.specs.Pieces.Span.{span_text, span_end}
use Rattle.front_spanned.specs.Nodes.{view}
use Rattle.front_reader.specs.Pieces.{IsPiece}
use Rattle.front_reader.specs.Signs.{signed}
use Rattle.front_reader.proofs.rules.signs.with_signs.Given as goal

abbrev pub invariant-loop-sign : goal.invariant-loop-sign
invariant-loop-sign l = record {
  place : All (λ sign. IsPiece (span_text l.node.span) sign.start (span_end l.node.span)) l.left.items;
  same_text : span_text l.node.span ≡ span_text l.fn.operand.span;
  reads : signed (span_text l.fn.operand.span) l.left.items (view l.node)
      ≡ signed (span_text l.fn.operand.span) l.fn.signs.items (view l.fn.operand);
}

abbrev pub decreases-loop-sign : goal.decreases-loop-sign
decreases-loop-sign l = vec_len l.left
