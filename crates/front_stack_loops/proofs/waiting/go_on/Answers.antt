use Rattle.std.proofs.Common.{refl}
use Rattle.front_stack_loops.proofs.Awaiting.{first_then_none, first_then_second, last_done}
use Rattle.front_stack_loops.proofs.Repeated.{resumed}
use Rattle.front_stack_loops.proofs.Work.{where_ok}
use Rattle.front_stack_loops.proofs.waiting.go_on.Goals as goal

pub returns-in-Some : goal.returns-in-Some
returns-in-Some c = first_then_second c.args.table.now _ _ _ c.args.last c.args.reading c.in-First.second c.in-First.choice c.next_after.result c.in-Some.after c.in-First.is c.in_ok-push-in-First.ensures.items c.next_after.ensures c.in-Some.is

pub returns-in-None : goal.returns-in-None
returns-in-None c = first_then_none c.args.table.now _ _ _ c.args.last c.args.reading _ c.in-First.second c.in-First.choice c.next_after.result c.in-First.is c.in_ok-push-in-First.ensures.items c.next_after.ensures c.in-None.is c.impossible.ensures

pub returns-in_ok-remember-in-Last : goal.returns-in_ok-remember-in-Last
returns-in_ok-remember-in-Last c = last_done c.args.table.now _ _ _ c.args.last c.args.reading _ c.in-Last.how c.in-Last.is c.whole-whole.ensures c.in_ok-remember-in-Last.ensures

pub returns-in-Copy : goal.returns-in-Copy
returns-in-Copy c = where_ok c.resume_copies.result (λ q g. resumed c.args.table.now _ _ _ _ c.args.last c.args.reading _ _ _ q c.in-Copy.is refl (λ l h. h) g) c.resume_copies.ensures

pub returns-in-Turn : goal.returns-in-Turn
returns-in-Turn c = where_ok c.resume_turns.result (λ q g. resumed c.args.table.now _ _ _ _ c.args.last c.args.reading _ _ _ q c.in-Turn.is refl (λ l h. h) g) c.resume_turns.ensures
