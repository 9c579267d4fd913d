use Rattle.std.proofs.Common.{◌≡◌, ◌∙◌, sym, ap, subst, Some, None}
use Rattle.front_stack_domain.specs.Walks.{next_after}
use Rattle.front_stack_domain.specs.Views.{stack_of, possible}
use Rattle.front_stack_loops.specs.Visiting.{IsAfter, AddsStack}
use Rattle.front_stack_loops.specs.Table.{IsMeaning}
use Rattle.front_stack_loops.specs.Memory.{Meaning, IsRight}
use Rattle.front_stack_loops.proofs.Visited.{after_one}
use Rattle.front_stack_loops.proofs.visits.add_after.Goals as goal

pub returns-in_ok-add : goal.returns-in_ok-add
returns-in_ok-add c =
    let a = stack_of c.args.stack in
    let is : (meaning : Meaning) → IsMeaning c.args.table.now meaning → IsRight meaning c.args.memory.now → possible c.next_after-next.result ≡ next_after c.args.first.choice (meaning c.args.first.node a) a = λ meaning h i.
    c.next_after-next.ensures ∙ ap (λ r. next_after c.args.first.choice r a) (c.in_ok-reading.ensures.value meaning h i) in
    after_one c.args.table.now _ _ (λ meaning b. IsAfter (meaning c.args.first.node) c.args.first.choice a b) c.args.found.now.items c.add.new.stacks.items c.next_after-next.result
    c.in_ok-reading.ensures.kept (λ meaning h i b p. is meaning h i ∙ p) (λ meaning h i b p. sym (is meaning h i) ∙ p)
    (λ s e. let x : Some c.in-Some.next ≡ Some s = sym c.in-Some.is ∙ e in let y : c.in-Some.next ≡ s = cc in subst (λ s. AddsStack c.args.found.now.items c.add.new.stacks.items (stack_of s)) y c.in_ok-add.ensures)
    (λ e. let x : Some c.in-Some.next ≡ None = sym c.in-Some.is ∙ e in cc)
