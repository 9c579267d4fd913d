use Rattle.base_language.specs.Rewritings.Rewriting.{Many, Joins}
use Rattle.base_language.proofs.Replacing.{joinings_chained, joinings_keep}
use Rattle.base_ast.specs.Ast.{expression_of, rule_of_code, rule_type_of}
use Rattle.front_optimizer.proofs.Joining.{all_joined, nothing_joined, reached}
use Rattle.front_optimizer.proofs.concatenator.concatenate.Goals as goal

pub returns-in_ok-expr-in-Atomic-clause-done : goal.returns-in_ok-expr-in-Atomic-clause-done
returns-in_ok-expr-in-Atomic-clause-done c = rw c.in-Atomic.is (all_joined c.in_ok-expr-in-Atomic.ensures)

pub returns-in_ok-expr-in-Atomic-clause-chain : goal.returns-in_ok-expr-in-Atomic-clause-chain
returns-in_ok-expr-in-Atomic-clause-chain c =
    let steps : Many (Joins (rule_type_of c.args.rule.ty)) (expression_of c.args.rule.expr) (expression_of c.in_ok-expr-in-Atomic.expr) = rw c.in-Atomic.is (reached c.in_ok-expr-in-Atomic.ensures) in
    joinings_chained (rule_of_code c.args.rule) _ steps

pub returns-in_ok-expr-in-Atomic-clause-outcomes : goal.returns-in_ok-expr-in-Atomic-clause-outcomes
returns-in_ok-expr-in-Atomic-clause-outcomes c =
    let steps : Many (Joins (rule_type_of c.args.rule.ty)) (expression_of c.args.rule.expr) (expression_of c.in_ok-expr-in-Atomic.expr) = rw c.in-Atomic.is (reached c.in_ok-expr-in-Atomic.ensures) in
    joinings_keep (rule_of_code c.args.rule) _ steps

pub returns-in_default-clause-done : goal.returns-in_default-clause-done
returns-in_default-clause-done c = nothing_joined c.args.rule.ty (expression_of c.args.rule.expr) c.in_default.not-Atomic

pub returns-in_default-clause-chain : goal.returns-in_default-clause-chain
returns-in_default-clause-chain c = joinings_chained (rule_of_code c.args.rule) _ (nothing_joined c.args.rule.ty (expression_of c.args.rule.expr) c.in_default.not-Atomic).reached

pub returns-in_default-clause-outcomes : goal.returns-in_default-clause-outcomes
returns-in_default-clause-outcomes c = joinings_keep (rule_of_code c.args.rule) _ (nothing_joined c.args.rule.ty (expression_of c.args.rule.expr) c.in_default.not-Atomic).reached
