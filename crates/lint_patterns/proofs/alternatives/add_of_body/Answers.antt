use Rattle.std.proofs.Common.{◌∙◌, ◌++◌, map, sym, ap, append_assoc, arith}
use Rattle.front_spanned.specs.Nodes.{piece_of, view}
use Rattle.lint_patterns.specs.Duplicates.{repeated_here}
use Rattle.lint_patterns.specs.DuplicateLists.{inner_spans, nodes_left, spans_left}
use Rattle.lint_patterns.proofs.AlternativeStacks.{here_and_inside, nodes_left_push, spans_left_push}
use Rattle.lint_patterns.proofs.alternatives.add_of_body.Goals as goal

pub loop-next-smaller : goal.loop-next-smaller
loop-next-smaller c =
    let e = ap nodes_left c.in-Some.ensures.items ∙ nodes_left_push c.pop.new.self.items c.in-Some.next in
    let h = c.in_ok-push_inner.ensures.less in
    omega arith

pub loop-next-preserved : goal.loop-next-preserved
loop-next-preserved c =
    let next = c.in-Some.next in
    let before = map piece_of c.loop-next.found.items in
    let rest = spans_left c.pop.new.self.items in
    let here = repeated_here next.is_alternative (view next.node.now) in
    let inside = inner_spans (view next.node.now) in
    let e = ap spans_left c.in-Some.ensures.items ∙ (spans_left_push c.pop.new.self.items next ∙ (ap (λ l. l ++ rest) (here_and_inside next.is_alternative (view next.node.now)) ∙ append_assoc here inside rest)) in
    ap (λ l. l ++ spans_left c.push_inner.new.stack.items) c.in_ok-add_of_node.ensures
    ∙ (ap (λ l. (before ++ here) ++ l) c.in_ok-push_inner.ensures.spans
    ∙ (append_assoc before here (inside ++ rest)
    ∙ (ap (λ l. before ++ l) (sym e) ∙ c.loop-next.invariant)))
