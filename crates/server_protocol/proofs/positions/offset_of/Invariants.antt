use Rattle.std.proofs.Common.{◌≡◌}
use Rattle.server_protocol.specs.Positions.{position_at}
use Rattle.server_protocol.proofs.Counting.{IsLastBefore}
use Rattle.server_protocol.proofs.positions.offset_of.Given as goal

abbrev pub invariant-loop-offset : goal.invariant-loop-offset
invariant-loop-offset l = record {
  here : l.here ≡ position_at l.encoding l.text l.offset;
  last : IsLastBefore l.encoding l.text l.position l.offset l.last;
}
