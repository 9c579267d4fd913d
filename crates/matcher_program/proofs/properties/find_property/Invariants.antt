use Rattle.std.proofs.Common.{◌≡◌, chars, drop}
use Rattle.matcher_program.specs.Refusals.{has_property}
use Rattle.matcher_program.proofs.properties.find_property.Given as goal

abbrev pub invariant-loop-number : goal.invariant-loop-number
invariant-loop-number l = has_property l.properties (chars l.name) ≡ has_property (drop l.number l.properties) (chars l.name)
