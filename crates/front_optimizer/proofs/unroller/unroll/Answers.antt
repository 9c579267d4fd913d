use Rattle.base_ast.specs.Ast.{rule_of_code}
use Rattle.base_language.proofs.Replacing.{unrollings_chained, unrollings_keep}
use Rattle.front_optimizer.proofs.Unrolling as unrolling
use Rattle.front_optimizer.proofs.unroller.unroll.Goals as goal

pub returns-clause-steps : goal.returns-clause-steps
returns-clause-steps c = unrolling.reached c.in_ok-expr.ensures

pub returns-clause-unrolled : goal.returns-clause-unrolled
returns-clause-unrolled c = unrolling.unrolled c.in_ok-expr.ensures

pub returns-clause-chain : goal.returns-clause-chain
returns-clause-chain c = unrollings_chained (rule_of_code c.args.rule) _ (unrolling.reached c.in_ok-expr.ensures)

pub returns-clause-outcomes : goal.returns-clause-outcomes
returns-clause-outcomes c = unrollings_keep (rule_of_code c.args.rule) _ (unrolling.reached c.in_ok-expr.ensures)
