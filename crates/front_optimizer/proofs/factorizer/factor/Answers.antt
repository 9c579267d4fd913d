use Rattle.base_ast.specs.Ast.{rule_of_code}
use Rattle.base_language.proofs.Replacing.{factorings_chained, factorings_keep}
use Rattle.front_optimizer.proofs.Factoring.{reached}
use Rattle.front_optimizer.proofs.factorizer.factor.Goals as goal

pub returns-clause-steps : goal.returns-clause-steps
returns-clause-steps c = reached _ c.in_ok-expr.ensures

pub returns-clause-chain : goal.returns-clause-chain
returns-clause-chain c = factorings_chained (rule_of_code c.args.rule) _ (reached _ c.in_ok-expr.ensures)

pub returns-clause-outcomes : goal.returns-clause-outcomes
returns-clause-outcomes c = factorings_keep (rule_of_code c.args.rule) _ (reached _ c.in_ok-expr.ensures)
