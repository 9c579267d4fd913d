use Rattle.std.proofs.Common.{◌≡◌, ◌++◌, [], drop, length, reverse}
use Rattle.front_syntax.specs.TokenEvents.{named_events}
use Rattle.front_syntax.specs.Writing.{left_events}
use Rattle.front_syntax.proofs.events.write_events.Given as goal

abbrev pub invariant-loop-number : goal.invariant-loop-number
invariant-loop-number l =
    named_events l.events.items ++ left_events (drop l.number l.nodes) l.number (length (named_events l.events.items)) (reverse l.pending.items)
    ≡ left_events l.nodes 0 0 []
