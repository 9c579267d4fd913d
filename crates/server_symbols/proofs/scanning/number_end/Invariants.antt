use Rattle.std.proofs.Common.{◌≡◌}
use Rattle.std.specs.Char.{is_ascii_digit}
use Rattle.server_symbols.specs.Lexemes.{run_end}
use Rattle.server_symbols.proofs.scanning.number_end.Given as goal

abbrev pub invariant-loop-end : goal.invariant-loop-end
invariant-loop-end l = run_end is_ascii_digit l.text l.start ≡ run_end is_ascii_digit l.text l.end
