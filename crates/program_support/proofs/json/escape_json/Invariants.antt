use Rattle.std.proofs.Common.{◌≡◌, encode_utf8_all, string_bytes}
use Rattle.std.specs.List.{flat_map}
use Rattle.program_support.specs.Escapes.{json_character}
use Rattle.program_support.proofs.json.escape_json.Given as goal

abbrev pub invariant-loop-character : goal.invariant-loop-character
invariant-loop-character l = string_bytes l.escaped ≡ encode_utf8_all (flat_map json_character l.yielded)
