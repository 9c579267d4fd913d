use Rattle.std.proofs.Common.{◌≡◌, refl, ap}
use Rattle.std.proofs.lemmas.Result.{err_from_is_err_and}
use Rattle.front_nodes.specs.Nodes.{named_trees_of}
use Rattle.front_reader.specs.Reading.{done}
use Rattle.base_language.specs.Pieces.Span.{span_text}
use Rattle.front_spanned.specs.Spanned.{Span}
use Rattle.front_reader.proofs.FlawsInOrder.{first_in, or_skip}
use Rattle.front_reader.proofs.Nodes.{piece_round, before_next, postfix_in, postfixed_more}
use Rattle.front_reader.proofs.Operators.{postfixes_tree, quiet_postfix}
use Rattle.front_reader.proofs.rules.operators.apply_postfixes.Goals as goal

pub span_at-span-requires : goal.span_at-span-requires
span_at-span-requires c = rw c.start.ensures (piece_round c.args.text.now c.loop-operator.node (rw c.in-Some.ensures at c.loop-operator.invariant.place))

pub returns-in_err-node : goal.returns-in_err-node
returns-in_err-node c =
    let s = postfixes_tree (rw c.in-Some.ensures at c.loop-operator.invariant.shape) in
    let q = quiet_postfix c.in-Some.operator.start c.in-Some.operator.end (named_trees_of c.in-Some.operator.others.now) s.0 in
    let p = err_from_is_err_and c.from_residual.result c.from_residual.ensures.1 in
    let t : span_text c.span_at-span.result ≡ c.args.text.now = ap (λ (v : Span). v.text) c.span_at-span.ensures in
    rw (p.1, p.2, c.loop-operator.invariant.flaws, c.in-Some.ensures, q) (first_in _ _ _ (rw t at c.in_err-node.ensures))

pub loop-operator-preserved : goal.loop-operator-preserved
loop-operator-preserved c =
    let s = postfixes_tree (rw c.in-Some.ensures at c.loop-operator.invariant.shape) in
    let q = quiet_postfix c.in-Some.operator.start c.in-Some.operator.end (named_trees_of c.in-Some.operator.others.now) s.0 in
    let t : span_text c.span_at-span.result ≡ c.args.text.now = ap (λ (v : Span). v.text) c.span_at-span.ensures in
    let e = postfix_in t c.in_ok-node.ensures.1 in
    let k = rw c.start.ensures at c.span_at-span.ensures in
    record {
      shape = s.1;
      place = before_next c.args.text.now c.loop-operator.node c.in_ok-node.node _ (rw c.in-Some.ensures at c.loop-operator.invariant.place) k e;
      flaws = rw (c.loop-operator.invariant.flaws, c.in-Some.ensures) (or_skip _ _ _ q (rw t at c.in_ok-node.ensures.0));
      reads = λ y d. c.loop-operator.invariant.reads y (rw c.in-Some.ensures (postfixed_more c.args.text.now c.loop-operator.node c.in_ok-node.node _ k e d));
    }

pub returns : goal.returns
returns c = (rw (c.loop-operator.invariant.flaws, c.in_default.ensures) refl, c.loop-operator.invariant.reads _ (rw c.in_default.ensures done))
