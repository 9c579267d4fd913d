use Rattle.std.proofs.Common.{take}
use Rattle.front_analysis.specs.Layout.{NothingWaits}
use Rattle.front_analysis.specs.Roots.{IsTabled}
use Rattle.front_analysis.proofs.table.tabulate.Given as goal

abbrev pub invariant-loop-place : goal.invariant-loop-place
invariant-loop-place l = IsTabled (take l.place l.rules) l.table × NothingWaits l.unnumbered
