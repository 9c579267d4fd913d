-- Steps of a walk over the copies of a repetition.
use Rattle.std.specs.Prelude.{Option, Some, None, is_some, Bool, true, false, not, ◌&&◌, ◌||◌, if◌then◌else◌}
use Rattle.front_stack_domain.specs.Stack.{AbstractStack, join_any, failed}
use Rattle.front_stack_domain.specs.Reading.{Reading, Walk, stays, tried}

-- a walk after one more copy, which is required or may fail
abbrev pub stepped : Bool → AbstractStack → Reading → Walk → Walk
stepped true a r w =
    record { here = r.ok; failing = w.failing || is_some r.err; still = w.still && stays r }
stepped false a r w = record { here = tried a r; failing = w.failing; still = w.still && stays r }

-- a walk after one more turn
abbrev pub turned : AbstractStack → Reading → Walk → Walk
turned a r w =
    record { here = join_any w.here (failed r.err a); failing = w.failing; still = w.still && stays r }

-- the stack from which a second operand is read: in a choice after a failure of the first, else after its
-- success
abbrev pub next_after : Bool → Reading → AbstractStack → Option AbstractStack
next_after true r a = failed r.err a
next_after false r a = r.ok

-- the stack after an expression that cannot fail and takes nothing
abbrev pub settled : Reading → Option AbstractStack
settled r = if is_some r.err || not r.still then None else r.ok

-- the reading of the whole; `alone`: nothing can be skipped inside it
abbrev pub ended : AbstractStack → Bool → Walk → Reading
ended a alone w = record {
  ok = w.here;
  err = if w.failing then Some a else None;
  still = not (is_some w.here) || (w.still && alone);
}
