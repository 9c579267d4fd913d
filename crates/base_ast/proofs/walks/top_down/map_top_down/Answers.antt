use Rattle.std.proofs.Common.{refl, inr}
use Rattle.std.proofs.lemmas.Result.{err_from_is_err_and}
use denote.Param.Always.{mut_next}
use Rattle.base_ast.specs.Operands.{count_of_nodes}
use Rattle.base_ast.proofs.Frames.{opens_less, closes_less}
use Rattle.base_ast.proofs.Mapping as mapping
use Rattle.base_ast.proofs.walks.top_down.map_top_down.Goals as goal

pub returns-in_err-f-in-Next-clause-refused : goal.returns-in_err-f-in-Next-clause-refused
returns-in_err-f-in-Next-clause-refused g c =
    let p = err_from_is_err_and c.from_residual.result c.from_residual.ensures.1 in
    let s = mapping.stops_at g.E.Tree.says (goal.F-step g) g.E.Tree.stands_for c.along.frames.items c.in-Next.expr c.along.f c.f.new.self c.in_err-f-in-Next.field-0.0 c.in_err-f-in-Next.ensures in
    rw (p.1, p.2) (inr (s.0, c.along.invariant.1 s.0 _ (rw c.in-Next.is s.1)))

pub along-smaller-in-Next : goal.along-smaller-in-Next
along-smaller-in-Next g c =
    rw c.in-Next.is
    (opens_less g.E.Tree.says g.E.Tree.stands_for c.along.frames.items c.open_node.new.frames.items (g.E.Tree.says c.in_ok-f-in-Next.field-0) (count_of_nodes (g.E.Tree.says c.in-Next.expr)) c.in_ok-next-in-Next.next (c.requires.smaller _ _ _ _ c.in_ok-f-in-Next.ensures) c.in_ok-next-in-Next.ensures.opens)

pub along-preserved-in-Next : goal.along-preserved-in-Next
along-preserved-in-Next g c = (
  mut_next g.F.FnMut _ _ _ _ _ c.f.ensures refl c.along.invariant.0,
  λ w t e. c.along.invariant.1 w t (rw c.in-Next.is (mapping.opens_top_down g.E.Tree.says (goal.F-step g) g.E.Tree.stands_for c.along.frames.items c.open_node.new.frames.items c.in-Next.expr c.in_ok-f-in-Next.field-0 c.along.f c.f.new.self c.in_ok-next-in-Next.next c.in_ok-f-in-Next.ensures c.in_ok-next-in-Next.ensures.opens w t e)),
)

pub along-smaller : goal.along-smaller
along-smaller g c =
    rw c.in-Done.is
    (closes_less g.E.Tree.says g.E.Tree.stands_for c.pop.new.self.items c.close.new.frames.items c.along.frames.items c.in-Done.done c.in-Some.frame c.in_ok-next-in-Some.next c.in-Some.ensures.items c.in_ok-next-in-Some.ensures.closes)

pub along-preserved : goal.along-preserved
along-preserved g c = (
  c.along.invariant.0,
  λ w t e. c.along.invariant.1 w t (rw c.in-Done.is (mapping.closes_top_down g.E.Tree.says (goal.F-step g) g.E.Tree.stands_for c.pop.new.self.items c.close.new.frames.items c.along.frames.items c.in-Done.done c.in-Some.frame c.in_ok-next-in-Some.next _ c.in-Some.ensures.items c.in_ok-next-in-Some.ensures.closes w t e)),
)
