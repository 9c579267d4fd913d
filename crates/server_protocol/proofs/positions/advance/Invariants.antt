use Rattle.std.proofs.Common.{◌≡◌}
use Rattle.server_protocol.specs.Positions.{position_at}
use Rattle.server_protocol.proofs.positions.advance.Given as goal

abbrev pub invariant-loop-next : goal.invariant-loop-next
invariant-loop-next l = l.here ≡ position_at l.encoding l.text l.next
