use Rattle.std.proofs.Common.{◌≡◌}
use Rattle.server_symbols.specs.Lexemes.{line_end}
use Rattle.server_symbols.proofs.scanning.line_end.Given as goal

abbrev pub invariant-loop-end : goal.invariant-loop-end
invariant-loop-end l = line_end l.text l.start ≡ line_end l.text l.end
