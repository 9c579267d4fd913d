use Rattle.std.proofs.Common.{◌≡◌, ◌∙◌, sym, ap, rules, true, ◌∷◌, []}
use Rattle.base_graphs.specs.Least.{is_set_at}
use Rattle.front_stack_loops.specs.Following.{seen_stacks}
use Rattle.front_stack_loops.proofs.Whole.{more_found, more_none}
use Rattle.front_stack_loops.proofs.repetitions.visit_body.Goals as goal

pub returns-then-not-is_set-clause-found : goal.returns-then-not-is_set-clause-found
returns-then-not-is_set-clause-found c = more_none c.args.table.now c.args.reportable.now c.args.body c.args.memory.now c.args.found.now.items
    (sym c.is_set.ensures ∙ c.if-not-is_set.true)

pub returns-clause-kept : goal.returns-clause-kept
returns-clause-kept c = c.in_ok-visit.ensures.kept

pub returns-clause-found : goal.returns-clause-found
returns-clause-found c =
    let ss = c.in_ok-vec.field-0.items in
    let one : ss ≡ c.entry.result ∷ [] = c.in_ok-vec.ensures.items_if_clones_equal (λ y h. search rules) in
    let on : is_set_at c.args.reportable.now c.args.body ≡ true = sym c.is_set.ensures ∙ c.if-not-is_set.false in
    more_found c.args.table.now c.args.reportable.now c.args.body c.args.memory.now c.visit.new.memory ss c.args.found.now.items c.visit.new.found.items on
    (ap seen_stacks one ∙ ap (λ z. z ∷ []) c.entry.ensures) c.in_ok-visit.ensures
