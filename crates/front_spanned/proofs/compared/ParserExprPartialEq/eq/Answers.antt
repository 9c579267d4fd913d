use Rattle.std.proofs.Common.{◌∙◌}
use Rattle.std.proofs.lemmas.Bool.Decides.{Decides-at}
use Rattle.front_spanned.proofs.NodeTests.{same_expression-Decides}
use Rattle.front_spanned.proofs.compared.ParserExprPartialEq.eq.Goals as goal

pub returns-clause-exact : goal.returns-clause-exact
returns-clause-exact c = Decides-at _ _ (c.are_same.ensures ∙ c.compare_exprs.ensures.same) (same_expression-Decides c.args.self.now c.args.other.now)
