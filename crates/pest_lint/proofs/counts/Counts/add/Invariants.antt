use Rattle.std.proofs.Common.{◌≡◌, take}
use Rattle.std.specs.List.{fold}
use Rattle.pest_lint.specs.Counts.{counts_after}
use Rattle.pest_lint.proofs.counts.Counts.add.Given as goal

abbrev pub invariant-loop-diagnostic : goal.invariant-loop-diagnostic
invariant-loop-diagnostic l = l.self ≡ fold counts_after l.initial.self (take l.diagnostic-index l.diagnostics)
