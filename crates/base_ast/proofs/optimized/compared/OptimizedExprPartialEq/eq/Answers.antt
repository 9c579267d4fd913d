use Rattle.std.proofs.lemmas.Bool.Decides.{Decides-at}
use Rattle.base_language.specs.Rewritings.Equality.{expression_eq-Decides}
use Rattle.base_ast.specs.Optimized.{optimized_expression_of}
use Rattle.base_ast.proofs.optimized.compared.OptimizedExprPartialEq.eq.Goals as goal

pub returns-clause-exact : goal.returns-clause-exact
returns-clause-exact c =
    Decides-at _ _ c.equal.ensures (expression_eq-Decides (optimized_expression_of c.args.self.now) (optimized_expression_of c.args.other.now))
