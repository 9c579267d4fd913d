use Rattle.std.proofs.Common.{◌≡◌, ◌∙◌, [], refl, append-nil, Ok, inr, arith}
use Rattle.std.proofs.lemmas.Result.{err_from_is_err_and}
use denote.Param.Always.{mut_next}
use Rattle.base_ast.specs.Operands.{count_of_nodes}
use Rattle.base_ast.proofs.Frames.{opens_less, closes_less}
use Rattle.base_ast.proofs.Mapping as mapping
use Rattle.base_ast.proofs.walks.bottom_up.map_bottom_up.Goals as goal

pub along-smaller-in-Next : goal.along-smaller-in-Next
along-smaller-in-Next g c =
    rw c.in-Next.is
    (opens_less g.E.Tree.says g.E.Tree.stands_for c.along.frames.items c.open_node.new.frames.items (g.E.Tree.says c.in-Next.expr) (count_of_nodes (g.E.Tree.says c.in-Next.expr)) c.in_ok-next-in-Next.next (omega arith) c.in_ok-next-in-Next.ensures.opens)

pub along-preserved-in-Next : goal.along-preserved-in-Next
along-preserved-in-Next g c = (
  c.along.invariant.0,
  λ w t e. c.along.invariant.1 w t (rw c.in-Next.is (mapping.opens_bottom_up g.E.Tree.says (goal.F-step g) g.E.Tree.stands_for c.along.frames.items c.open_node.new.frames.items c.in-Next.expr (Ok c.along.f) c.in_ok-next-in-Next.next c.in_ok-next-in-Next.ensures.opens w t e)),
)

pub returns-in_err-done-in-Done-clause-refused : goal.returns-in_err-done-in-Done-clause-refused
returns-in_err-done-in-Done-clause-refused g c =
    let p = err_from_is_err_and c.from_residual-in_err-done-in-Done.result c.from_residual-in_err-done-in-Done.ensures.1 in
    let s = mapping.stops_at_done g.E.Tree.says (goal.F-step g) g.E.Tree.stands_for c.along.frames.items c.in-Done.whole c.along.f c.f.new.self c.in_err-done-in-Done.field-0.0 c.in_err-done-in-Done.ensures in
    rw (p.1, p.2) (inr (s.0, c.along.invariant.1 s.0 _ (rw c.in-Done.is s.1)))

pub along-smaller : goal.along-smaller
along-smaller g c =
    rw c.in-Done.is
    (closes_less g.E.Tree.says g.E.Tree.stands_for c.pop.new.self.items c.close.new.frames.items c.along.frames.items c.in_ok-done-in-Done.done c.in-Some.frame c.in_ok-next-in-Some.next c.in-Some.ensures.items c.in_ok-next-in-Some.ensures.closes)

pub along-preserved : goal.along-preserved
along-preserved g c = (
  mut_next g.F.FnMut _ _ _ _ _ c.f.ensures refl c.along.invariant.0,
  λ w t e. c.along.invariant.1 w t (rw c.in-Done.is (mapping.closes_bottom_up g.E.Tree.says (goal.F-step g) g.E.Tree.stands_for c.pop.new.self.items c.close.new.frames.items c.along.frames.items c.in-Done.whole c.in_ok-done-in-Done.done c.in-Some.frame c.in_ok-next-in-Some.next c.along.f c.f.new.self c.in_ok-done-in-Done.ensures c.in-Some.ensures.items c.in_ok-next-in-Some.ensures.closes w t e)),
)

pub returns-in-None-clause-mapped : goal.returns-in-None-clause-mapped
returns-in-None-clause-mapped g c =
    let none_left : c.pop.new.self.items ≡ [] = c.in-None.ensures.rest ∙ rw c.in-None.ensures.cases.0 refl in
    let empty : c.along.frames.items ≡ [] = c.in-None.ensures.items ∙ (append-nil c.pop.new.self.items ∙ none_left) in
    let done = mapping.ends_at_done g.E.Tree.says (goal.F-step g) g.E.Tree.stands_for c.along.frames.items c.in-Done.whole c.in_ok-done-in-Done.done c.along.f c.f.new.self c.in_ok-done-in-Done.ensures empty in
    (c.f.new.self, c.along.invariant.1 _ _ (rw c.in-Done.is done))
