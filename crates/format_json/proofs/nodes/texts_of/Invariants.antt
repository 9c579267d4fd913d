use Rattle.std.proofs.Common.{◌≡◌, map, take}
use Rattle.serde_json.specs.View.{view}
use Rattle.format_json.specs.Format.{text_data}
use Rattle.format_json.proofs.nodes.texts_of.Given as goal

-- what is read are the values so far
abbrev pub invariant-loop-value : goal.invariant-loop-value
invariant-loop-value l = map text_data l.texts.items ≡ map view (take l.value-index l.value-items)
