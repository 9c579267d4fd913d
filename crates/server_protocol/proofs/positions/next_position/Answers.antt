use Rattle.std.proofs.Common.{◌≤◌, ◌*◌, arith}
use Rattle.server_protocol.proofs.Counting.{character_bound, line_bound, units_few}
use Rattle.server_protocol.proofs.positions.next_position.Goals as goal

pub overflow_add-result : goal.overflow_add-result
overflow_add-result c =
    let bound : c.args.position.line ≤ c.args.offset = rw c.requires.position (line_bound c.args.encoding c.args.text.now c.args.offset) in
    omega arith

pub overflow_add-result-else-ends_line : goal.overflow_add-result-else-ends_line
overflow_add-result-else-ends_line c =
    let bound : c.args.position.character ≤ 2 * c.args.offset = rw c.requires.position (character_bound c.args.encoding c.args.text.now c.args.offset) in
    omega (arith, units_few)
