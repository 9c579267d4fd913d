use Rattle.std.proofs.Common.{arith, ◌≤◌}
use Rattle.front_stack_domain.specs.Marks.{room}
use Rattle.front_stack_domain.proofs.MarkLemmas.{room_grows}
use Rattle.front_stack_domain.proofs.stack.marks.push_mark.Goals as goal

pub overflow_mul-result : goal.overflow_mul-result
overflow_mul-result c = let h : room c.args.count ≤ 128 = room_grows c.args.count 7 (omega arith) in omega arith

pub overflow_add-result : goal.overflow_add-result
overflow_add-result c = let h : room c.args.count ≤ 128 = room_grows c.args.count 7 (omega arith) in omega arith

pub overflow_mul-result-else-blank : goal.overflow_mul-result-else-blank
overflow_mul-result-else-blank c = let h : room c.args.count ≤ 128 = room_grows c.args.count 7 (omega arith) in omega arith
