use Rattle.std.proofs.Common.{ap, ◌∙◌, sym, subst}
use Rattle.base_language.specs.Pieces.NamedTrees.{named}
use Rattle.front_grammar.specs.Outcomes.{Spells}
use Rattle.front_syntax.specs.Nodes.{AreNodesOf}
use Rattle.front_syntax.proofs.Parsing.{nested_in_text}
use Rattle.front_syntax.proofs.grammar.PestParser.forest.Goals as goal

pub new-requires : goal.new-requires
new-requires c =
    let x = c.in_ok-nodes.ensures in
    let e = c.in_ok-trees.ensures x.trees (subst (λ ns. AreNodesOf ns x.trees) (sym c.deref.ensures.value) x.are_nodes) in
    record { nested = nested_in_text c.args.rule c.args.text.now _ c.utf8.text (subst (Spells c.args.rule c.args.text.now) (sym e) x.spelled) }

pub returns-clause-spelled : goal.returns-clause-spelled
returns-clause-spelled c =
    let x = c.in_ok-nodes.ensures in
    let e = c.in_ok-trees.ensures x.trees (subst (λ ns. AreNodesOf ns x.trees) (sym c.deref.ensures.value) x.are_nodes) in
    rw c.new.ensures.text (subst (Spells c.args.rule c.args.text.now) (sym (ap named c.new.ensures.trees ∙ e)) x.spelled)
