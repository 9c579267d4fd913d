use Rattle.std.proofs.Common.{◌≡◌, map, take}
use Rattle.format_json.specs.Format.{text_data}
use Rattle.format_json.proofs.nodes.copies.Given as goal

-- the copies are those of the texts so far
abbrev pub invariant-loop-text : goal.invariant-loop-text
invariant-loop-text l = map text_data l.copies.items ≡ map text_data (take l.text-index l.texts)
