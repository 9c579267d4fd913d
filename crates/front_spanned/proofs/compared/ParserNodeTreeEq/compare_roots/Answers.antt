use Rattle.std.proofs.Common.{arith}
use Rattle.base_ast.proofs.Weights.{some_weight}
use Rattle.front_spanned.specs.Erasure.{without_spans}
use Rattle.front_spanned.specs.Nodes.{view}
use Rattle.front_spanned.proofs.Sameness.{apart, together}
use Rattle.front_spanned.proofs.Unplaced.{weight_unplaced}
use Rattle.front_spanned.proofs.compared.ParserNodeTreeEq.compare_roots.Goals as goal

pub returns-then-not-same_span-clause-same : goal.returns-then-not-same_span-clause-same
returns-then-not-same_span-clause-same c =
    apart c.args.self.now c.args.other.now c.same_span.result c.same_span.ensures c.if-not-same_span.true

pub returns-then-not-same_span-clause-work : goal.returns-then-not-same_span-clause-work
returns-then-not-same_span-clause-work c = some_weight (without_spans (view c.args.self.now))

pub returns-clause-same : goal.returns-clause-same
returns-clause-same c =
    together c.args.self.now c.args.other.now c.same_span.result _ c.same_span.ensures c.if-not-same_span.false c.compare_exprs.ensures.same

pub returns-clause-work : goal.returns-clause-work
returns-clause-work c =
    let e = weight_unplaced c.args.self.now in omega (arith, e, c.compare_exprs.ensures.work)
