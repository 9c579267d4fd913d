use Rattle.std.proofs.Common.{◌≡◌, ◌++◌, map}
use Rattle.front_restorer.specs.Bodies.{said_by}
use Rattle.front_restorer.proofs.bodies.bodies_of_map.Given as goal

abbrev pub invariant-loop-name : goal.invariant-loop-name
invariant-loop-name l = map said_by l.bodies.items ++ l.name-iterator ≡ l.rules.entries
