use Rattle.matcher_engine.specs.Walks.{visited_of}
use Rattle.pest_test.proofs.Following.{enters_first, enters_left_out}
use Rattle.pest_test.proofs.agreement.enter.Goals as goal

pub returns-then-is_entered : goal.returns-then-is_entered
returns-then-is_entered c =
    enters_first c.args.text.now (visited_of c.args.tree.now) c.in-Some.event.now c.args.progress.rest.now c.in-Some.rest.now _ c.if-progress.false
    c.in-Some.ensures.cases.0 (c.is_entered.ensures c.if-is_entered.true)

pub returns-then-is_end : goal.returns-then-is_end
returns-then-is_end c = enters_left_out c.args.text.now (visited_of c.args.tree.now) c.args.progress.rest.now _ c.if-progress.false (c.is_end.ensures c.if-is_end.true)
