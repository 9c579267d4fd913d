use Rattle.std.proofs.Common.{◌≡◌, ◌∙◌, ◌<◌, ◌∷◌, ◌++◌, [], sym, ap, subst, rules, length, refl, append-nil}
use Rattle.front_stack_loops.specs.Table.{level, nodes_of}
use Rattle.front_stack_loops.specs.Visiting.{AreLeftLow, effort_left}
use Rattle.front_stack_loops.proofs.Left.{VisitedSoFar, low_first, visit_begun, visit_on, visited_all}
use Rattle.front_stack_loops.proofs.visits.visit.Goals as goal

pub loop-next-init : goal.loop-next-init
loop-next-init c =
    let w : c.args.start.node < length (nodes_of c.args.table.now) = search rules in
    visit_begun c.args.table.now _ c.args.start _ _ (c.in_ok-push.ensures.items ∙ ap (λ l. l ++ c.args.start ∷ []) c.new-left.ensures.items) w

pub visit_one-requires-clause-inside : goal.visit_one-requires-clause-inside
visit_one-requires-clause-inside c =
    let t = c.args.table.now in
    let w = (low_first t (level t c.args.start.node) c.pop.new.self.items c.in-Some.next (subst (AreLeftLow t (level t c.args.start.node)) c.in-Some.ensures.items c.loop-next.invariant.low)).1 in
    let v : c.in-Some.next.node < length (nodes_of t) = w.within in search rules

pub loop-next-smaller : goal.loop-next-smaller
loop-next-smaller c = subst (λ z. effort_left c.args.table.now c.visit_one.new.left.items < effort_left c.args.table.now z) (sym c.in-Some.ensures.items) c.in_ok-visit_one.ensures.less

pub loop-next-preserved : goal.loop-next-preserved
loop-next-preserved c = visit_on c.args.table.now _ _ _ c.args.start _ _ _ _ _
    (subst (λ ws. VisitedSoFar c.args.table.now c.args.memory.now c.loop-next.memory c.args.start c.args.found.now.items ws c.loop-next.found.items) c.in-Some.ensures.items c.loop-next.invariant) c.in_ok-visit_one.ensures

pub returns : goal.returns
returns c =
    let none_left : c.pop.new.self.items ≡ [] = c.in_default.ensures.rest ∙ rw c.in_default.ensures.cases.0 refl in
    visited_all c.args.table.now _ _ c.args.start _ _ c.loop-next.left.items (c.in_default.ensures.items ∙ (append-nil c.pop.new.self.items ∙ none_left)) c.loop-next.invariant
