use Rattle.std.proofs.Common.{take}
use Rattle.base_ast.specs.Ast.{rules_of}
use Rattle.front_optimizer.specs.Bodies.{HoldsBodies}
use Rattle.front_optimizer.proofs.bodies.bodies_of.Given as goal

abbrev pub invariant-loop-rule : goal.invariant-loop-rule
invariant-loop-rule l = HoldsBodies l.bodies.value (rules_of (take l.rule-index l.rule-items))
