use Rattle.std.proofs.Common.{◌≡◌}
use Rattle.server_symbols.specs.NewNames.{is_other}
use Rattle.server_symbols.specs.Lexemes.{run_end}
use Rattle.server_symbols.proofs.scanning.name_end.Given as goal

abbrev pub invariant-loop-end : goal.invariant-loop-end
invariant-loop-end l = run_end is_other l.text l.start ≡ run_end is_other l.text l.end
