use Rattle.std.proofs.Common.{◌+◌, ◌-◌, ◌%◌, ◌<◌, length, refl, arith}
use Rattle.std.proofs.lemmas.Option.{slice_get_read, slice_get_within}
use Rattle.front_stack_loops.proofs.Follow.{foreseen_back, foreseen_now}
use Rattle.front_stack_loops.proofs.copies.foreseen.Goals as goal

pub returns-then-left-eq0-clause-known : goal.returns-then-left-eq0-clause-known
returns-then-left-eq0-clause-known c = foreseen_now c.args.trace.now c.args.walk c.args.left c.if-left-eq0.true

pub returns-clause-known : goal.returns-clause-known
returns-clause-known c =
    let place = c.in_ok-place.place in
    let found = c.in_ok-place.ensures in
    let small : place < length c.args.trace.now = slice_get_within c.args.trace.now place found.walk found.at in
    foreseen_back c.args.trace.now c.args.walk _ c.args.left place found
    (slice_get_read c.args.trace.now (length c.args.trace.now) (place + c.args.left % (length c.args.trace.now - place)) c.index-trace-place.result refl (omega arith) c.index-trace-place.is)
