use Rattle.pest_language_server.proofs.Heads.{body_is_long, frame_is_cut, frame_read_if}
use Rattle.pest_language_server.proofs.frames.read_frame.Goals as goal

pub returns-then-length-gt-MOST_BODY : goal.returns-then-length-gt-MOST_BODY
returns-then-length-gt-MOST_BODY g c = body_is_long _ _ c.in-Length.length (rw c.in-Length.is at c.in_ok-head.ensures) c.if-length-gt-MOST_BODY.true

pub returns-else-length-gt-MOST_BODY : goal.returns-else-length-gt-MOST_BODY
returns-else-length-gt-MOST_BODY g c = frame_read_if c.read_body.result _ _ _ c.in-Length.length (rw c.in-Length.is at c.in_ok-head.ensures) c.read_body.ensures

pub returns-in-Invalid : goal.returns-in-Invalid
returns-in-Invalid g c = rw c.in-Invalid.is at c.in_ok-head.ensures

pub returns-in-End : goal.returns-in-End
returns-in-End g c = frame_is_cut _ _ (rw c.in-End.is at c.in_ok-head.ensures)
