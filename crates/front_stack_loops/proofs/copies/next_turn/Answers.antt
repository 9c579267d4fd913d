use Rattle.std.proofs.Common.{◌≡◌, ◌∙◌, sym, ap, refl, reverse, true, false, arith}
use Rattle.front_stack_domain.specs.Stack.{is_among}
use Rattle.front_stack_domain.specs.Views.{possible, stack_of}
use Rattle.front_stack_loops.specs.Following.{seen_stacks}
use Rattle.front_stack_loops.proofs.Follow.{among_reverse}
use Rattle.front_stack_loops.proofs.Repeated.{goes_on_ended, turn_waits, turns_come_again, turns_end, turns_over}
use Rattle.front_stack_loops.proofs.Work.{where_ok}
use Rattle.front_stack_loops.proofs.copies.next_turn.Goals as goal

pub returns-then-turns-eq0 : goal.returns-then-turns-eq0
returns-then-turns-eq0 c = where_ok c.end.result (λ q d. goes_on_ended c.args.table.now _ _ _ _ _ _ _ _ q c.args.turns.alone _ (λ meaning k. turns_over c.args.table.now meaning c.args.turns _ _ _ _ c.if-turns-eq0.true c.unknown.ensures k) d) c.end.ensures

pub returns-in_default : goal.returns-in_default
returns-in_default c = where_ok c.end-in_default.result (λ q d. goes_on_ended c.args.table.now _ _ _ _ _ _ _ _ q c.args.turns.alone _ (λ meaning k. turns_end c.args.table.now meaning c.args.turns _ _ _ (omega arith) (ap possible c.in_default.is) k) d) c.end-in_default.ensures

pub returns-then-is_among : goal.returns-then-is_among
returns-then-is_among c =
    let ss = c.args.turns.seen.items in
    let a = stack_of c.in-Some.from in
    let again : is_among (reverse (seen_stacks ss)) a ≡ true = among_reverse (seen_stacks ss) a ∙ (sym (c.is_among.ensures ∙ ap (λ l. is_among (seen_stacks l) a) c.deref.ensures.value) ∙ c.if-is_among.true) in
    where_ok c.end-then-is_among.result (λ q d. goes_on_ended c.args.table.now _ _ _ _ _ _ _ _ q c.args.turns.alone _ (λ meaning k. turns_come_again c.args.table.now meaning c.args.turns _ _ _ _ (omega arith) (ap possible c.in-Some.is) again k) d) c.end-then-is_among.ensures

pub returns : goal.returns
returns c =
    let ss = c.args.turns.seen.items in
    let a = stack_of c.in-Some.from in
    let fresh : is_among (reverse (seen_stacks ss)) a ≡ false = among_reverse (seen_stacks ss) a ∙ (sym (c.is_among.ensures ∙ ap (λ l. is_among (seen_stacks l) a) c.deref.ensures.value) ∙ c.if-is_among.false) in
    turn_waits c.args.table.now _ c.args.begun.node c.args.begun.stack c.args.turns _ c.in-Some.from (possible c.args.next) _ _ _ (ap possible c.in-Some.is) (omega arith) fresh refl c.in_ok-push.ensures.items c.in_ok-push-2.ensures.items refl
