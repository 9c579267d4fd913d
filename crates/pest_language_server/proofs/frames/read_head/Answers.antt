use Rattle.std.proofs.Common.{MatchOption, arith, rules, subst}
use Rattle.pest_language_server.proofs.Heads.{head_ends, head_goes, head_is_cut, head_is_long}
use Rattle.pest_language_server.specs.Frames.{SaysLength, SaysNone}
use Rattle.pest_language_server.proofs.frames.read_head.Goals as goal

pub returns-in-None : goal.returns-in-None
returns-in-None g c =
    let (few, (lines, n, are, says, h)) = c.loop-count.invariant in
    head_is_cut _ _ _ lines are h (omega arith) (rw c.in-None.is at c.in_ok-next.ensures)

pub returns-then-is_empty_line : goal.returns-then-is_empty_line
returns-then-is_empty_line g c =
    let (few, (lines, n, are, says, h)) = c.loop-count.invariant in
    let read = rw c.in-Some.is at c.in_ok-next.ensures in
    rw c.head_of.ensures (head_ends _ _ _ lines are h c.in-Some.line.items c.loop-count.length says (search rules) read.1)

pub loop-count-preserved : goal.loop-count-preserved
loop-count-preserved g c =
    let (few, (lines, n, are, says, h)) = c.loop-count.invariant in
    let read = rw c.in-Some.is at c.in_ok-next.ensures in
    let says_next = subst (λ l. MatchOption c.content_length.result (SaysNone l) (SaysLength l)) c.deref-in-Some.ensures.value c.content_length.ensures in
    let (more, m, all, last, k) = head_goes _ _ _ lines are h c.in-Some.line.items c.loop-count.length c.content_length.result c.loop-count.count n says read.0 (search rules) read.1 says_next in
    (omega arith, (more, m, all, rw c.or-length.ensures last, k))

pub returns : goal.returns
returns g c =
    let (few, (lines, n, are, says, h)) = c.loop-count.invariant in
    head_is_long _ _ lines are (omega arith) h
