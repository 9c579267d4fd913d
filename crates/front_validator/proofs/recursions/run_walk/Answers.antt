use Rattle.std.proofs.Common.{◌≡◌, ◌∙◌, ◌++◌, ◌∷◌, [], ap, sym, subst, refl, append-nil, arith}
use Rattle.front_analysis.specs.Nodes.{all_nodes}
use Rattle.front_validator.specs.Searching.{cost, rest, IsSearch}
use Rattle.front_validator.specs.declared.recursions.Task.TheVariants.{Visit, Leave}
use Rattle.front_validator.proofs.NodeSteps.{cost-append}
use Rattle.front_validator.proofs.SearchCalls.{finished}
use Rattle.front_validator.proofs.SearchLemmas.{left}
use Rattle.front_validator.proofs.WalkLists.{taken_end, nothing_left, trail_popped}
use Rattle.front_validator.proofs.WalkSteps.{never}
use Rattle.front_validator.proofs.recursions.run_walk.Goals as goal

pub loop-task-smaller-in-Leave : goal.loop-task-smaller-in-Leave
loop-task-smaller-in-Leave c =
    let nodes = all_nodes c.args.guide.rules.now in
    let popped = c.pop.new.self.items in
    let items : c.loop-task.walk.tasks.items ≡ popped ++ Leave ∷ [] = c.in-Some.ensures.items ∙ ap (λ t. popped ++ t ∷ []) c.in-Leave.is in
    let a = ap (λ z. cost nodes z) items in
    let b = cost-append nodes popped (Leave ∷ []) in
    omega arith

pub loop-task-preserved-in-Leave : goal.loop-task-preserved-in-Leave
loop-task-preserved-in-Leave c =
    let inv = c.loop-task.invariant in
    let roots = c.args.guide.facts.now.table.roots.items in
    let popped = c.pop.new.self.items in
    let items : c.loop-task.walk.tasks.items ≡ popped ++ Leave ∷ [] = c.in-Some.ensures.items ∙ ap (λ t. popped ++ t ∷ []) c.in-Leave.is in
    let (others, same, queued) = taken_end inv.todo popped Leave (sym items ∙ inv.are_tasks) in
    let state = subst (λ z. IsSearch c.args.guide.rules.now roots c.args.start c.loop-task.walk.entered.all.items z inv.path) same inv.state in
    record {
      todo = others;
      path = rest inv.path;
      are_tasks = queued;
      is_trail = trail_popped inv.path c.loop-task.walk.trail.items c.pop-left.new.self.items c.loop-task.walk.trail.len inv.is_trail c.loop-task.walk.trail.ok.0 c.pop-left.ensures.rest;
      state = left c.args.guide.rules.now roots c.args.start c.loop-task.walk.entered.all.items others inv.path state;
    }

pub walk_node-requires-clause-going : goal.walk_node-requires-clause-going
walk_node-requires-clause-going c =
    let inv = c.loop-task.invariant in
    let roots = c.args.guide.facts.now.table.roots.items in
    let popped = c.pop.new.self.items in
    let items : c.loop-task.walk.tasks.items ≡ popped ++ Visit c.in-Visit.node ∷ [] = c.in-Some.ensures.items ∙ ap (λ t. popped ++ t ∷ []) c.in-Visit.is in
    let (others, same, queued) = taken_end inv.todo popped (Visit c.in-Visit.node) (sym items ∙ inv.are_tasks) in
    (others, inv.path, subst (λ z. IsSearch c.args.guide.rules.now roots c.args.start c.loop-task.walk.entered.all.items z inv.path) same inv.state, queued, inv.is_trail)

pub returns-clause-none : goal.returns-clause-none
returns-clause-none c =
    let inv = c.loop-task.invariant in
    let rs = c.args.guide.rules.now in
    let facts = c.args.guide.facts.now in
    let roots = facts.table.roots.items in
    let entered = c.loop-task.walk.entered.all.items in
    let none_left : c.pop.new.self.items ≡ [] = c.in_default.ensures.rest ∙ rw c.in_default.ensures.cases.0 refl in
    let empty : c.loop-task.walk.tasks.items ≡ [] = c.in_default.ensures.items ∙ (append-nil c.pop.new.self.items ∙ none_left) in
    let done = nothing_left inv.todo (sym inv.are_tasks ∙ empty) in
    let state = subst (λ z. IsSearch rs roots c.args.start entered z inv.path) done inv.state in
    let (sought, settled) = finished rs roots c.args.start entered inv.path state in
    (sought, never rs facts c.requires.guide.facts c.args.start entered settled state.begun)
