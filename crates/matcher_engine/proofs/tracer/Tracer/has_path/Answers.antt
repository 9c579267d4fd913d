use Rattle.std.proofs.Common.{◌≡◌, ◌∙◌, ◌<◌, ap, arith, get_or, length, sym}
use Rattle.matcher_engine.proofs.Marking.{path_found, path_passed}
use Rattle.matcher_engine.proofs.tracer.Tracer.has_path.Goals as goal

pub returns-then-eq : goal.returns-then-eq
returns-then-eq c =
    let vs = c.args.self.now.paths.items in
    let i = c.loop-path.path-index in
    let v = c.path-item.result in
    let l : i < length vs = omega (arith, c.loop-path-test.true, ap length c.deref-path-items.ensures.value, c.loop-path.auto.path-index-end) in
    let is : get_or vs i v ≡ v = sym (c.path-item.is ∙ ap (λ ys. get_or ys i v) c.deref-path-items.ensures.value) in
    sym (path_found vs c.args.calls.now i v l is c.as_slice.result.now c.as_slice.ensures.value c.eq.result c.eq.ensures c.if-eq.true)

pub loop-path-preserved : goal.loop-path-preserved
loop-path-preserved c =
    let vs = c.args.self.now.paths.items in
    let i = c.loop-path.path-index in
    let v = c.path-item.result in
    let l : i < length vs = omega (arith, c.loop-path-test.true, ap length c.deref-path-items.ensures.value, c.loop-path.auto.path-index-end) in
    let is : get_or vs i v ≡ v = sym (c.path-item.is ∙ ap (λ ys. get_or ys i v) c.deref-path-items.ensures.value) in
    path_passed vs c.args.calls.now i v l is c.as_slice.result.now c.as_slice.ensures.value c.eq.result c.eq.ensures c.if-eq.false c.loop-path.invariant
