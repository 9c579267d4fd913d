use Rattle.std.proofs.Common.{◌≡◌, None, ap, not, refl, arith}
use Rattle.front_stack_domain.specs.Views.{stack_of, walk_of}
use Rattle.front_stack_domain.specs.declared.reading.Walk.{Walk}
use Rattle.front_stack_loops.specs.declared.copies.Copies.{Copies}
use Rattle.front_stack_loops.specs.declared.copies.Turns.{Turns}
use Rattle.front_stack_loops.proofs.Repeated.{copies_done, copies_nowhere, goes_on_by, goes_on_ended, limit_left, optional_waits, required_waits, turns_begin}
use Rattle.front_stack_loops.proofs.Work.{where_ok}
use Rattle.front_stack_loops.proofs.copies.next_copy.Goals as goal

pub returns-in_default : goal.returns-in_default
returns-in_default c = where_ok c.end.result (λ q d. goes_on_ended c.args.table.now _ _ _ _ _ _ _ _ q c.args.copies.alone (walk_of c.args.copies.walk) (λ meaning k. copies_nowhere c.args.table.now meaning c.args.copies _ _ c.in_default.is k) d) c.end.ensures

pub returns-then-copies-gt0 : goal.returns-then-copies-gt0
returns-then-copies-gt0 c = where_ok c.wait_for_copy.result (λ q put. required_waits c.args.table.now _ c.args.begun.node c.args.begun.stack c.args.copies c.in-Some.from _ _ q c.in-Some.is c.if-copies-gt0.true put) c.wait_for_copy.ensures

pub returns-then-copies-gt0-2 : goal.returns-then-copies-gt0-2
returns-then-copies-gt0-2 c = where_ok c.wait_for_copy-then-copies-gt0-2.result (λ q put. optional_waits c.args.table.now _ c.args.begun.node c.args.begun.stack c.args.copies c.in-Some.from _ _ q c.in-Some.is (omega arith) c.if-copies-gt0-2.true put) c.wait_for_copy-then-copies-gt0-2.ensures

pub returns-then-not-copies : goal.returns-then-not-copies
returns-then-not-copies c = where_ok c.end-then-not-copies.result (λ q d. goes_on_ended c.args.table.now _ _ _ _ _ _ _ _ q c.args.copies.alone (walk_of c.args.copies.walk) (λ meaning k. copies_done c.args.table.now meaning c.args.copies _ _ (omega arith) (omega arith) (ap not c.if-not-copies.true) k) d) c.end-then-not-copies.ensures

pub returns : goal.returns
returns c =
    let tab = c.args.table.now in
    let was : Copies = c.args.copies in
    let walk : Walk = record { here = None; failing = was.walk.failing; still = was.walk.still } in
    let turns : Turns = record { body = was.body; alone = was.alone; left = tab.limit; walk = walk; seen = c.new.result } in
    let none : was.required ≡ 0 = omega arith in
    let neither : was.optional ≡ 0 = omega arith in
    where_ok c.next_turn.result (λ q g. goes_on_by tab _ _ _ _ _ _ _ _ _ _ _ q
    (λ meaning k. turns_begin tab meaning was turns c.in-Some.from (stack_of c.args.begun.stack) _ none neither (ap not c.if-not-copies.false) c.in-Some.is refl refl refl c.new.ensures.items refl k) (limit_left tab was (ap not c.if-not-copies.false)) g) c.next_turn.ensures
