use Rattle.std.proofs.Common.{refl}
use Rattle.std.proofs.lemmas.Result.{err_from_is_err_and}
use Rattle.front_spanned.specs.Nodes.{view}
use Rattle.front_reader.proofs.Levels.{opened, close}
use Rattle.front_reader.proofs.Terms.{view_ending, view_starting}
use Rattle.front_reader.proofs.rules.reading.close_parentheses.Goals as goal

pub span_at-inside-requires : goal.span_at-inside-requires
span_at-inside-requires c =
    let s = c.requires.1 in
    let k = close c.args.inside s.opens s.nested s.reads.1 in
    rw c.start.ensures k.place

pub apply_postfixes-requires-clause-shape : goal.apply_postfixes-requires-clause-shape
apply_postfixes-requires-clause-shape c =
    let o = opened c.requires.1.opens in
    o.behind

pub apply_postfixes-requires-clause-place : goal.apply_postfixes-requires-clause-place
apply_postfixes-requires-clause-place c =
    let s = c.requires.1 in
    let k = close c.args.inside s.opens s.nested s.reads.1 in
    k.before _ (rw c.start.ensures at c.span_at-inside.ensures)

pub returns-in_err-node : goal.returns-in_err-node
returns-in_err-node c = λ us s.
    let o = opened s.opens in
    let p = err_from_is_err_and c.from_residual.result c.from_residual.ensures.1 in
    rw (p.1, p.2, o.flaw, s.reads.0) c.in_err-node.ensures

pub span_at-node-requires : goal.span_at-node-requires
span_at-node-requires c =
    let s = c.requires.1 in
    let k = close c.args.inside s.opens s.nested s.reads.1 in
    let v = view_ending c.args.inside (record { expr = c.args.inside.expr; span = c.span_at-inside.result }) k.same_text refl (rw c.start.ensures at c.span_at-inside.ensures) in
    let q = c.in_ok-node.ensures in
    let r = k.reads (view c.in_ok-node.node) (rw v at q.1) in
    let o = k.outermost c.in_ok-node.node r in
    rw c.end.ensures o.place

pub returns : goal.returns
returns c = λ us s.
    let k = close c.args.inside s.opens s.nested s.reads.1 in
    let v = view_ending c.args.inside (record { expr = c.args.inside.expr; span = c.span_at-inside.result }) k.same_text refl (rw c.start.ensures at c.span_at-inside.ensures) in
    let q = c.in_ok-node.ensures in
    let r = k.reads (view c.in_ok-node.node) (rw v at q.1) in
    let o = k.outermost c.in_ok-node.node r in
    let w = view_starting c.in_ok-node.node (record { expr = c.in_ok-node.node.expr; span = c.span_at-node.result }) o.same_text refl (rw c.end.ensures at c.span_at-node.ensures) in
    let f = opened s.opens in
    (rw (f.flaw, s.reads.0, q.0) refl, rw w r)
