use Rattle.std.proofs.Common.{sym, subst}
use Rattle.front_analysis.specs.Nodes.{all_nodes}
use Rattle.front_analysis.specs.Roots.{AreRoots}
use Rattle.front_analysis.specs.Shapes as shapes
use Rattle.front_analysis.proofs.facts.table_with_kinds.Goals as goal

pub returns : goal.returns
returns c =
    let rs = c.args.grammar.now.rules.now in
    let tabled = c.requires.tabled in
    let nodes = subst (shapes.AreNodes (all_nodes rs)) (sym c.as_slice.ensures.value) tabled.numbered.nodes in
    record {
      nodes = c.in_ok-kinds.ensures rs c.requires.known (all_nodes rs) nodes;
      roots = subst (AreRoots rs (all_nodes rs)) (sym c.in_ok-roots.ensures) tabled.roots;
    }
