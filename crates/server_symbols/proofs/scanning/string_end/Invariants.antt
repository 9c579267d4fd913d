use Rattle.std.proofs.Common.{◌≡◌, ◌+◌, drop}
use Rattle.server_symbols.specs.Lexemes.{string_end, string_len}
use Rattle.server_symbols.proofs.scanning.string_end.Given as goal

abbrev pub invariant-loop-end : goal.invariant-loop-end
invariant-loop-end l = string_end l.text l.start ≡ l.end + string_len l.is_escaped (drop l.end l.text)
