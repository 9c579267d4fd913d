use Rattle.std.proofs.Common.{◌≡◌, ◌++◌, [], option_to_list, refl, sym, ap, append-nil, ◌∙◌}
use denote.Param.Always.{mut_next}
use Rattle.front_spanned.specs.Walk.{waiting}
use Rattle.front_spanned.proofs.Walks.{waiting_on, waits_less, answered_on, appended_on}
use Rattle.front_spanned.proofs.Meeting.{on_err, met_next, stops_after}
use Rattle.front_spanned.proofs.filter.walk.Goals as goal
use Rattle.front_spanned.proofs.filter.walk.Goals.{in-Some-call_mut+in_ok-push-2, in_default-call_mut}

pub loop-next-smaller : goal.loop-next-smaller
loop-next-smaller g c =
    waits_less c.loop-next.stack.items c.pop.new.self.items c.push_operands.new.stack.items c.in-Some.next c.in-Some.ensures.items c.in_ok-push_operands.ensures

pub loop-next-preserved : goal.loop-next-preserved
loop-next-preserved g c =
    let kept : c.match-call_mut.answers.items ≡ c.loop-next.answers.items ++ option_to_list c.call_mut.result =
    elim c.match-call_mut.branch [
      | in-Some-call_mut+in_ok-push-2 w ↦ rw (w.answers-is, w.in-Some-call_mut.is) w.in_ok-push-2.ensures.items
      | in_default-call_mut w ↦ rw (w.answers-is, w.in_default-call_mut.is) (sym (append-nil c.loop-next.answers.items))
    ] in
    let waits = waiting_on c.loop-next.stack.items c.pop.new.self.items c.push_operands.new.stack.items c.in-Some.next c.in-Some.ensures.items c.in_ok-push_operands.ensures in (
      mut_next g.F.FnMut _ _ _ _ _ c.call_mut.ensures refl c.loop-next.invariant.0,
      λ last found h.
          appended_on (goal.F-step g) _ _ _ _ _ _ _ found kept
          (c.loop-next.invariant.1 last _ (answered_on (goal.F-step g) _ _ _ c.in_ok-clone.field-0 _ _ _ _ found c.in_ok-clone.ensures.cases c.call_mut.ensures waits h)),
      met_next (goal.F-step g) _ _ _ _ c.in_ok-clone.field-0 _ _ _ _ c.in_ok-clone.ensures.cases c.call_mut.ensures waits c.loop-next.invariant.2,
    )

pub returns-clause-appended : goal.returns-clause-appended
returns-clause-appended g c =
    let none_left : c.pop.new.self.items ≡ [] = c.in_default.ensures.rest ∙ rw c.in_default.ensures.cases.0 refl in
    let empty : waiting c.loop-next.stack.items ≡ [] = ap waiting (c.in_default.ensures.items ∙ (append-nil c.pop.new.self.items ∙ none_left)) in
    let h = c.loop-next.invariant.1 c.loop-next.f [] (rw empty (refl, refl)) in
    rw append-nil at h

pub returns-in_err-push-2-clause-interrupted : goal.returns-in_err-push-2-clause-interrupted
returns-in_err-push-2-clause-interrupted g c =
    on_err c.from_residual-in_err-push-2.result (stops_after (goal.F-step g) _ _ _ _ c.in_ok-clone.field-0 _ _ _ c.in-Some.next c.in_ok-clone.ensures.cases c.call_mut.ensures c.in-Some.ensures.items c.loop-next.invariant.2)

pub returns-in_err-push_operands-clause-interrupted : goal.returns-in_err-push_operands-clause-interrupted
returns-in_err-push_operands-clause-interrupted g c =
    on_err c.from_residual-in_err-push_operands.result (stops_after (goal.F-step g) _ _ _ _ c.in_ok-clone.field-0 _ _ _ c.in-Some.next c.in_ok-clone.ensures.cases c.call_mut.ensures c.in-Some.ensures.items c.loop-next.invariant.2)
