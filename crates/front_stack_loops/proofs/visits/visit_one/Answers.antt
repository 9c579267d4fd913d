use Rattle.std.proofs.Common.{◌∙◌, ◌∷◌, ◌++◌, [], ap, subst, refl}
use Rattle.front_stack_loops.specs.Table.{HasParts, AreOrderedParts, copies}
use Rattle.front_stack_loops.specs.Visiting.{Collects, IsAfter, IsStartOf}
use Rattle.front_stack_loops.specs.declared.visits.Pending.{Pending}
use Rattle.front_stack_loops.proofs.Left.{visits_none, visits_both, visits_inside}
use Rattle.front_stack_loops.proofs.visits.visit_one.Goals as goal

pub returns-in-Nothing : goal.returns-in-Nothing
returns-in-Nothing c = visits_none c.args.table.now _ _ c.args.next _ (subst (HasParts c.args.table.now c.args.next.node) c.in-Nothing.is c.parts_at.ensures.parts)

pub returns-in_ok-push-in-Both-2 : goal.returns-in_ok-push-in-Both-2
returns-in_ok-push-in-Both-2 c =
    let t = c.args.table.now in
    let v = c.args.next in
    let w : Pending = record { node = c.in-Both.second; stacks = c.in_ok-behind-in-Both.behind } in
    let u : Pending = record { node = c.in-Both.first; stacks = v.stacks } in
    visits_both t c.args.memory.now c.stacks_after.new.memory c.args.left.now.items _ v w u c.in-Both.choice c.args.found.now.items
    (subst (HasParts t v.node) c.in-Both.is c.parts_at.ensures.parts)
    (subst (λ ss. Collects t c.args.memory.now c.stacks_after.new.memory (λ meaning. IsAfter (meaning c.in-Both.first) c.in-Both.choice) ss c.in_ok-behind-in-Both.behind.items) c.deref.ensures.value c.in_ok-behind-in-Both.ensures)
    refl (subst (AreOrderedParts t v.node) c.in-Both.is (c.parts_at.ensures.ordered c.requires.ordered))
    (c.in_ok-push-in-Both-2.ensures.items ∙ ap (λ l. l ++ u ∷ []) c.in_ok-push-in-Both.ensures.items)

pub returns-in_ok-push-in-Inside : goal.returns-in_ok-push-in-Inside
returns-in_ok-push-in-Inside c =
    let t = c.args.table.now in
    let v = c.args.next in
    let w : Pending = record { node = c.in-Inside.body; stacks = c.in_ok-stacks-in-Inside.stacks } in
    let i = c.in-Inside in
    visits_inside t c.args.memory.now c.report.new.memory c.starts.new.memory c.args.left.now.items _ v w i.required i.optional i.endless c.args.found.now.items c.report.new.found.items
    (subst (HasParts t v.node) i.is c.parts_at.ensures.parts)
    c.in_ok-report-in-Inside.ensures
    (subst (λ ss. Collects t c.report.new.memory c.starts.new.memory (λ meaning. IsStartOf t.limit (meaning i.body) (copies i.required i.optional i.endless)) ss w.stacks.items) c.deref-in-Inside.ensures.value c.in_ok-stacks-in-Inside.ensures)
    (subst (AreOrderedParts t v.node) i.is (c.parts_at.ensures.ordered c.requires.ordered)) c.in_ok-push-in-Inside.ensures.items
