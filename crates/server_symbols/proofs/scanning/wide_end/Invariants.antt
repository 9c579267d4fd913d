use Rattle.std.proofs.Common.{◌≡◌}
use Rattle.server_symbols.specs.Lexemes.{is_wide, run_end}
use Rattle.server_symbols.proofs.scanning.wide_end.Given as goal

abbrev pub invariant-loop-end : goal.invariant-loop-end
invariant-loop-end l = run_end is_wide l.text l.start ≡ run_end is_wide l.text l.end
