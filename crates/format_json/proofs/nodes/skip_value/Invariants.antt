use Rattle.std.proofs.Common.{◌≡◌, map, take}
use Rattle.serde_json.specs.View.{view}
use Rattle.format_json.specs.Format.{text_data}
use Rattle.format_json.proofs.nodes.skip_value.Given as goal

-- what is written are the texts so far
abbrev pub invariant-loop-text : goal.invariant-loop-text
invariant-loop-text l = map view l.values.items ≡ map text_data (take l.text-index l.texts)
