-- Nothing is without weight.
use Rattle.std.proofs.Common.{◌<◌, arith}
use Rattle.base_language.specs.Language.Expression.{Expression, Str, Insens, Range, Ident, PeekSlice, PosPred, NegPred, Seq, Choice, Opt, Rep, RepOnce, RepExact, RepMin, RepMax, RepMinMax, Skip, Push, RestoreOnErr, PushLiteral, NodeTag}
use Rattle.base_ast.specs.Weight.{weight}

pub some_weight : (e : Expression) → 0 < weight e
some_weight (Str s) = omega arith
some_weight (Insens s) = omega arith
some_weight (Range s t) = omega arith
some_weight (Ident s) = omega arith
some_weight (PeekSlice i j) = omega arith
some_weight (PosPred e) = omega arith
some_weight (NegPred e) = omega arith
some_weight (Seq a b) = omega arith
some_weight (Choice a b) = omega arith
some_weight (Opt e) = omega arith
some_weight (Rep e) = omega arith
some_weight (RepOnce e) = omega arith
some_weight (RepExact e i) = omega arith
some_weight (RepMin e i) = omega arith
some_weight (RepMax e i) = omega arith
some_weight (RepMinMax e i j) = omega arith
some_weight (Skip ss) = omega arith
some_weight (PushLiteral s) = omega arith
some_weight (Push e) = omega arith
some_weight (NodeTag e s) = omega arith
some_weight (RestoreOnErr e) = omega arith
