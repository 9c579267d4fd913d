use Rattle.std.proofs.Common.{◌≡◌, flat_map, take}
use Rattle.format_binary.specs.Tokens.{event_numbers}
use Rattle.format_binary.proofs.tokens.tokens_numbers.Given as goal

-- what is written are the events so far
abbrev pub invariant-loop-event : goal.invariant-loop-event
invariant-loop-event l = l.numbers.items ≡ flat_map event_numbers (take l.event-index l.events)
