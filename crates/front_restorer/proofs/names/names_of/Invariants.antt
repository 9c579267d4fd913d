use Rattle.std.proofs.Common.{take, map}
use Rattle.front_restorer.specs.Bodies.{said_by, grammar_with}
use Rattle.front_restorer.specs.Names.{KnowsNames}
use Rattle.front_restorer.proofs.names.names_of.Given as goal

abbrev pub invariant-loop-number : goal.invariant-loop-number
invariant-loop-number l = KnowsNames (record { numbers = l.numbers }) (grammar_with (map said_by (take l.number l.bodies)))
