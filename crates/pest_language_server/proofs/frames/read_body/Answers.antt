use Rattle.std.proofs.Common.{◌++◌, ◌≤◌, length, length-take-le, rules, take}
use Rattle.pest_language_server.proofs.Heads.{body_is_skipped_if}
use Rattle.pest_language_server.proofs.Reading.{takes_more}
use Rattle.pest_language_server.proofs.frames.read_body.Goals as goal

pub returns-then-is_err : goal.returns-then-is_err
returns-then-is_err g c =
    let more = take c.in_ok-taken.taken c.read_part.new.buffer in
    let fits : c.in_ok-taken.taken ≤ length c.read_part.new.buffer = search rules in
    let (n, k) = takes_more _ _ _ c.loop-rest.body.items more c.loop-rest.rest c.in_ok-taken.taken c.args.length c.loop-rest.invariant.0 c.loop-rest.invariant.1 c.in_ok-taken.ensures.bytes (length-take-le _ c.read_part.new.buffer fits) (search rules) in
    body_is_skipped_if c.skip_body.result _ _ _ (c.loop-rest.body.items ++ more) _ c.args.length n k c.skip_body.ensures
