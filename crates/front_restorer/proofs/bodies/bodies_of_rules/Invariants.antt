use Rattle.std.proofs.Common.{◌≡◌, take, map}
use Rattle.front_restorer.specs.Bodies.{said_by, named_body}
use Rattle.front_restorer.proofs.bodies.bodies_of_rules.Given as goal

abbrev pub invariant-loop-rule : goal.invariant-loop-rule
invariant-loop-rule l = map said_by l.bodies.items ≡ map named_body (take l.rule-index l.rules)
