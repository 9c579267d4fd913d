use Rattle.front_reader.proofs.Nodes.{both_of_views}
use Rattle.front_reader.proofs.rules.reading.combine.Goals as goal

pub returns : goal.returns
returns c = rw (c.operation-expr.ensures, c.into_inner.ensures, c.into_inner-2.ensures, c.in_ok-left.ensures, c.in_ok-right.ensures, c.span_at-span.ensures, c.start.ensures, c.end.ensures) (both_of_views c.args.text.now _ c.args.left.value c.args.right.value)
