use Rattle.std.proofs.Common.{◌≡◌, map, take}
use Rattle.serde_json.specs.View.{view}
use Rattle.format_json.specs.Tokens.{event_data}
use Rattle.format_json.proofs.tokens.tokens_value.Given as goal

-- what is written are the tokens so far
abbrev pub invariant-loop-event : goal.invariant-loop-event
invariant-loop-event l = map view l.values.items ≡ map event_data (take l.event-index l.events)
