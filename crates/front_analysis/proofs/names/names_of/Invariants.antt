use Rattle.std.proofs.Common.{take}
use Rattle.front_analysis.specs.NameMaps.{KnowsRules}
use Rattle.front_analysis.proofs.names.names_of.Given as goal

abbrev pub invariant-loop-place : goal.invariant-loop-place
invariant-loop-place l = KnowsRules (take l.place l.rules) (record { places = l.places })
