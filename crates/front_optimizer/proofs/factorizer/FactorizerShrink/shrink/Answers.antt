use Rattle.base_ast.specs.Ast.{expression_of, rule_type_of}
use Rattle.front_optimizer.proofs.Factoring.{shrunk}
use Rattle.front_optimizer.proofs.factorizer.FactorizerShrink.shrink.Goals as goal

pub returns-in-Choice-clause-smaller : goal.returns-in-Choice-clause-smaller
returns-in-Choice-clause-smaller c =
    rw c.in-Choice.is (shrunk (rule_type_of c.args.self.now.ty) (expression_of c.in-Choice.left.value) (expression_of c.in-Choice.right.value) c.factor_choice.result c.factor_choice.ensures)
