use Rattle.std.proofs.Common.{◌++◌, ◌≤◌, length, length-take-le, rules, take}
use Rattle.pest_language_server.proofs.Reading.{takes_more}
use Rattle.pest_language_server.proofs.frames.skip_bytes.Goals as goal

pub loop-rest-preserved : goal.loop-rest-preserved
loop-rest-preserved g c =
    let (bytes, e, h) = c.loop-rest.invariant in
    let more = take c.in_ok-taken.taken c.read_part.new.buffer in
    let fits : c.in_ok-taken.taken ≤ length c.read_part.new.buffer = search rules in
    let (n, k) = takes_more _ _ _ bytes more c.loop-rest.rest c.in_ok-taken.taken c.args.count e h c.in_ok-taken.ensures.bytes (length-take-le _ c.read_part.new.buffer fits) (search rules) in
    (bytes ++ more, n, k)
