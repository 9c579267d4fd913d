use Rattle.std.proofs.Common.{◌∙◌, ◌++◌, map, sym, ap, arith}
use Rattle.front_spanned.specs.Nodes.{piece_of}
use Rattle.lint_patterns.specs.CopyLists.{left_over, nodes_left}
use Rattle.lint_patterns.proofs.CopyStacks.{left_over_push, nodes_left_push}
use Rattle.lint_patterns.proofs.copies.add_of_body.Goals as goal

pub loop-next-smaller : goal.loop-next-smaller
loop-next-smaller c =
    let e = ap nodes_left c.in-Some.ensures.items ∙ nodes_left_push c.pop.new.self.items c.in-Some.next in
    let h = c.in_ok-look_at.ensures.less in
    omega arith

pub loop-next-preserved : goal.loop-next-preserved
loop-next-preserved c =
    let e = ap left_over c.in-Some.ensures.items ∙ left_over_push c.pop.new.self.items c.in-Some.next in
    c.in_ok-look_at.ensures.looks ∙ (ap (λ l. map piece_of c.loop-next.found.items ++ l) (sym e) ∙ c.loop-next.invariant)
