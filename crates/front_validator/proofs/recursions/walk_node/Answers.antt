use Rattle.std.proofs.Common.{◌≡◌, ◌∙◌, ap, sym, subst, slice_get, Some, arith}
use Rattle.front_validator.specs.Searching.{called_in, IsClosing}
use Rattle.front_validator.proofs.WalkSteps.{in_range, closing, walk_called, walk_inner}
use Rattle.front_validator.proofs.recursions.walk_node.Goals as goal

pub returns-then-called-start-clause-closes : goal.returns-then-called-start-clause-closes
returns-then-called-start-clause-closes c = λ h.
    let (todo, path, state, tasks, trail) = c.requires.going in
    let rs = c.args.guide.rules.now in
    let facts = c.args.guide.facts.now in
    let e : called_in (slice_get facts.table.kinds.items c.args.node) ≡ Some c.in-Some.called = sym (c.in-Some.ensures ∙ ap called_in c.kind_of_node-kind.ensures) in
    let same : c.in-Some.called ≡ c.args.start = c.if-called-start.true in
    subst (λ z. IsClosing rs facts.table.roots.items c.args.start c.args.node z) (sym trail)
    (closing rs facts c.requires.guide.facts c.args.guide.passing.now c.requires.guide.passing c.args.start c.args.walk.now.entered.all.items c.args.node todo path state (e ∙ ap Some same))

pub walk_call-requires-clause-roots : goal.walk_call-requires-clause-roots
walk_call-requires-clause-roots c =
    let (todo, path, state, tasks, trail) = c.requires.going in
    let facts = c.args.guide.facts.now in
    let e : called_in (slice_get facts.table.kinds.items c.args.node) ≡ Some c.in-Some.called = sym (c.in-Some.ensures ∙ ap called_in c.kind_of_node-kind.ensures) in
    let small = (in_range c.args.guide.rules.now facts c.requires.guide.facts c.args.guide.passing.now c.requires.guide.passing c.args.start c.args.walk.now.entered.all.items c.args.node todo path state c.in-Some.called e).0 in
    let d = facts.table.roots.ok.0 in
    omega arith

pub walk_call-requires-clause-flags : goal.walk_call-requires-clause-flags
walk_call-requires-clause-flags c =
    let (todo, path, state, tasks, trail) = c.requires.going in
    let facts = c.args.guide.facts.now in
    let e : called_in (slice_get facts.table.kinds.items c.args.node) ≡ Some c.in-Some.called = sym (c.in-Some.ensures ∙ ap called_in c.kind_of_node-kind.ensures) in
    let small = (in_range c.args.guide.rules.now facts c.requires.guide.facts c.args.guide.passing.now c.requires.guide.passing c.args.start c.args.walk.now.entered.all.items c.args.node todo path state c.in-Some.called e).1 in
    let d = c.args.walk.now.entered.all.ok.0 in
    omega arith

pub returns-in_ok-walk_call-in-Some-clause-goes_on : goal.returns-in_ok-walk_call-in-Some-clause-goes_on
returns-in_ok-walk_call-in-Some-clause-goes_on c = λ h.
    let (todo, path, state, tasks, trail) = c.requires.going in
    let facts = c.args.guide.facts.now in
    let e : called_in (slice_get facts.table.kinds.items c.args.node) ≡ Some c.in-Some.called = sym (c.in-Some.ensures ∙ ap called_in c.kind_of_node-kind.ensures) in
    let told = c.in_ok-walk_call-in-Some.ensures in
    (walk_called c.args.guide.rules.now facts c.requires.guide.facts c.args.guide.passing.now c.requires.guide.passing c.args.start c.args.node c.args.walk.now c.walk_call.new.walk todo path state tasks trail c.in-Some.called e c.if-called-start.false
    told.known told.entered told.trail told.tasks).0

pub returns-in_ok-walk_call-in-Some-clause-less : goal.returns-in_ok-walk_call-in-Some-clause-less
returns-in_ok-walk_call-in-Some-clause-less c = λ h.
    let (todo, path, state, tasks, trail) = c.requires.going in
    let facts = c.args.guide.facts.now in
    let e : called_in (slice_get facts.table.kinds.items c.args.node) ≡ Some c.in-Some.called = sym (c.in-Some.ensures ∙ ap called_in c.kind_of_node-kind.ensures) in
    let told = c.in_ok-walk_call-in-Some.ensures in
    (walk_called c.args.guide.rules.now facts c.requires.guide.facts c.args.guide.passing.now c.requires.guide.passing c.args.start c.args.node c.args.walk.now c.walk_call.new.walk todo path state tasks trail c.in-Some.called e c.if-called-start.false
    told.known told.entered told.trail told.tasks).1

pub returns-in_ok-push_inside-in-None-clause-goes_on : goal.returns-in_ok-push_inside-in-None-clause-goes_on
returns-in_ok-push_inside-in-None-clause-goes_on c = λ h.
    let (todo, path, state, tasks, trail) = c.requires.going in
    (walk_inner c.args.guide.rules.now c.args.guide.facts.now c.requires.guide.facts c.args.guide.passing.now c.requires.guide.passing c.args.start c.args.node c.args.walk.now c.args.walk.now todo path state tasks trail c.kind_of_node-kind.result c.kind_of_node-kind.ensures (sym c.in-None.ensures)
    c.push_inside.new.tasks.items c.in_ok-push_inside-in-None.ensures).0

pub returns-in_ok-push_inside-in-None-clause-less : goal.returns-in_ok-push_inside-in-None-clause-less
returns-in_ok-push_inside-in-None-clause-less c = λ h.
    let (todo, path, state, tasks, trail) = c.requires.going in
    (walk_inner c.args.guide.rules.now c.args.guide.facts.now c.requires.guide.facts c.args.guide.passing.now c.requires.guide.passing c.args.start c.args.node c.args.walk.now c.args.walk.now todo path state tasks trail c.kind_of_node-kind.result c.kind_of_node-kind.ensures (sym c.in-None.ensures)
    c.push_inside.new.tasks.items c.in_ok-push_inside-in-None.ensures).1
