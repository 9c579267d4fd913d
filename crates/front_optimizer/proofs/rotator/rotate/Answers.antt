use Rattle.base_ast.specs.Ast.{rule_of_code}
use Rattle.base_language.proofs.Replacing.{rotations_chained, rotations_keep}
use Rattle.front_optimizer.proofs.Rotating.{rotated}
use Rattle.front_optimizer.proofs.rotator.rotate.Goals as goal

pub returns-clause-done : goal.returns-clause-done
returns-clause-done c = rotated c.in_ok-expr.ensures

pub returns-clause-chain : goal.returns-clause-chain
returns-clause-chain c = rotations_chained (rule_of_code c.args.rule) _ (rotated c.in_ok-expr.ensures).reached

pub returns-clause-outcomes : goal.returns-clause-outcomes
returns-clause-outcomes c = rotations_keep (rule_of_code c.args.rule) _ (rotated c.in_ok-expr.ensures).reached
