use Rattle.std.proofs.Common.{string_bytes}
use Rattle.pest_meta_c.proofs.Lining.{GoesOn}
use Rattle.pest_meta_c.proofs.diagnostics.lines_of.Given as goal

abbrev pub invariant-loop-diagnostic : goal.invariant-loop-diagnostic
invariant-loop-diagnostic l = GoesOn l.diagnostics l.diagnostic-index (string_bytes l.lines)
