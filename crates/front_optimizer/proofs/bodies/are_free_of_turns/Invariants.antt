use Rattle.std.proofs.Common.{take}
use Rattle.base_ast.specs.Ast.{rules_of}
use Rattle.front_optimizer.specs.Bodies.{HaveNoTurns}
use Rattle.front_optimizer.proofs.bodies.are_free_of_turns.Given as goal

abbrev pub invariant-loop-rule : goal.invariant-loop-rule
invariant-loop-rule l = HaveNoTurns (rules_of (take l.rule-index l.rule-items))
