use Rattle.std.proofs.Common.{sym, subst}
use Rattle.front_syntax.specs.Nodes.{AreNodesOf}
use Rattle.front_syntax.proofs.Parsing.{tokens_whole}
use Rattle.front_syntax.proofs.grammar.PestParser.tokens.Goals as goal

pub returns-clause-trees : goal.returns-clause-trees
returns-clause-trees c =
    let x = c.in_ok-nodes.ensures in
    (x.trees, x.spelled, c.in_ok-write_events.ensures x.trees (subst (λ ns. AreNodesOf ns x.trees) (sym c.deref.ensures.value) x.are_nodes))

pub returns-clause-whole : goal.returns-clause-whole
returns-clause-whole c =
    let x = c.in_ok-nodes.ensures in
    tokens_whole c.args.rule c.args.text.now _
    (x.trees, x.spelled, c.in_ok-write_events.ensures x.trees (subst (λ ns. AreNodesOf ns x.trees) (sym c.deref.ensures.value) x.are_nodes))
