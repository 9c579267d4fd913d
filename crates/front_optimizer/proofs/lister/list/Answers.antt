use Rattle.base_ast.specs.Ast.{expression_of, rule_type_of}
use Rattle.front_optimizer.proofs.Listed.{listed_bottom_up, keeps_matches}
use Rattle.front_optimizer.proofs.lister.list.Goals as goal

pub returns-clause-listed : goal.returns-clause-listed
returns-clause-listed c = listed_bottom_up c.in_ok-expr.ensures

pub returns-clause-matches : goal.returns-clause-matches
returns-clause-matches c =
    keeps_matches (rule_type_of c.args.rule.ty) (expression_of c.args.rule.expr) (expression_of c.in_ok-expr.expr) (listed_bottom_up c.in_ok-expr.ensures)
