use Rattle.std.proofs.Common.{◌≡◌, take}
use Rattle.front_analysis.specs.NamedPlaces.{last_name}
use Rattle.front_analysis.proofs.places.rule_number.Given as goal

abbrev pub invariant-loop-place : goal.invariant-loop-place
invariant-loop-place l = l.found ≡ last_name (take l.place l.names) l.name
