use Rattle.std.proofs.Common.{◌≡◌, ◌+◌, drop, option_map}
use Rattle.server_symbols.specs.Lexemes.{character_end, character_len}
use Rattle.server_symbols.proofs.scanning.character_end.Given as goal

abbrev pub invariant-loop-end : goal.invariant-loop-end
invariant-loop-end l = character_end l.text l.start ≡ option_map (λ n. l.end + n) (character_len l.least (drop l.end l.text))
