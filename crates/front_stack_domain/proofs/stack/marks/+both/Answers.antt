use Rattle.std.proofs.Common.{arith, ◌≤◌, ◌-◌, ◌%◌, ◌*◌}
use Rattle.front_stack_domain.specs.Marks.{room}
use Rattle.front_stack_domain.proofs.MarkLemmas.{room_grows, bits_product}
use Rattle.front_stack_domain.proofs.stack.marks.+both.Goals as goal

pub overflow_mul-result : goal.overflow_mul-result
overflow_mul-result t c = let h : room (c.args.count - 1) ≤ 128 = room_grows (c.args.count - 1) 7 (omega arith) in omega arith

pub overflow_add-result : goal.overflow_add-result
overflow_add-result t c =
    let h : room (c.args.count - 1) ≤ 128 = room_grows (c.args.count - 1) 7 (omega arith) in
    let k : c.args.first % 2 * (c.args.second % 2) ≤ 1 = bits_product c.args.first c.args.second in omega arith
