use Rattle.std.proofs.lemmas.Bool.Decides.{Decides-at}
use Rattle.front_spanned.specs.NodeEquality.{spanned_eq-Decides}
use Rattle.front_spanned.specs.Nodes.{view}
use Rattle.front_spanned.proofs.compared.ParserNodePartialEq.eq.Goals as goal

pub returns-clause-exact : goal.returns-clause-exact
returns-clause-exact c = Decides-at _ _ c.equal.ensures (spanned_eq-Decides (view c.args.self.now) (view c.args.other.now))
