use Rattle.std.proofs.Common.{subst, refl}
use Rattle.std.proofs.lemmas.Bool.{not-false, not-true}
use Rattle.front_stack_loops.specs.Visiting.{AddsAll, AddsEach}
use Rattle.front_stack_loops.proofs.Starting.{copies_alone, copies_and_turns, on_ok}
use Rattle.front_stack_loops.proofs.visits.add_starts.Goals as goal

pub returns-then-not-counts : goal.returns-then-not-counts
returns-then-not-counts c = copies_alone c.args.table.now c.args.repeated.body c.args.repeated.counts.required c.args.repeated.counts.optional _ _ _ _ c.in_ok-first.first c.in_ok-second.second _ _ c.args.found.now.items c.add_all.new.stacks.items c.add_all-2.new.stacks.items c.in_ok-first.ensures (subst (AddsAll c.args.found.now.items c.add_all.new.stacks.items) c.deref.ensures.value c.in_ok-add_all.ensures) c.in_ok-second.ensures (subst (AddsAll c.add_all.new.stacks.items c.add_all-2.new.stacks.items) c.deref-2.ensures.value c.in_ok-add_all-2.ensures) c.args.repeated.counts.endless c.args.stack refl (not-true _ c.if-not-counts.true)

pub returns : goal.returns
returns c = on_ok c.add_each.result (λ x. copies_and_turns c.args.table.now c.args.repeated.body c.args.repeated.counts.required c.args.repeated.counts.optional _ _ _ _ c.in_ok-first.first c.in_ok-second.second _ _ c.args.found.now.items c.add_all.new.stacks.items c.add_all-2.new.stacks.items c.in_ok-first.ensures (subst (AddsAll c.args.found.now.items c.add_all.new.stacks.items) c.deref.ensures.value c.in_ok-add_all.ensures) c.in_ok-second.ensures (subst (AddsAll c.add_all.new.stacks.items c.add_all-2.new.stacks.items) c.deref-2.ensures.value c.in_ok-add_all-2.ensures) c.args.repeated.counts.endless c.args.stack _ _ _ _ refl (not-false _ c.if-not-counts.false) c.in_ok-turn.ensures (subst (AddsEach c.add_all-2.new.stacks.items c.add_each.new.stacks.items) c.deref-3.ensures.value x)) c.add_each.ensures
