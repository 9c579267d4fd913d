use Rattle.std.proofs.Common.{refl, ◌≡◌, sym, subst, ap, arith, ◌∙◌, take, get_or, ◌∷◌, [], ◌++◌, ◌+◌, ◌≤◌, length, replicate}
use Rattle.std.proofs.lemmas.List.{length-take-le, take_more}
use Rattle.front_spanned.specs.Nodes.{view}
use Rattle.front_analysis.specs.Layout.{AreNumbered, rule_numbers}
use Rattle.front_analysis.specs.Nodes.{all_nodes, postorder, size}
use Rattle.front_analysis.specs.Roots.{AreRoots, rules_by_node}
use Rattle.front_analysis.proofs.LayoutLemmas.{laid_none, length-postorder}
use Rattle.front_analysis.proofs.Numbered.{found_last}
use Rattle.front_analysis.proofs.RootLemmas.{root_step, nodes_more}
use Rattle.front_analysis.proofs.RuleNumbers.{rules_more}
use Rattle.front_analysis.proofs.table.tabulate.Goals as goal

pub loop-place-init : goal.loop-place-init
loop-place-init c = (
  record {
    numbered = subst (λ z. AreNumbered [] z) (sym c.new.ensures.items) (record {
      laid_out = laid_none;
      nodes = record { alike = refl; fit = λ i x at. cc };
    });
    of_rules = ap (λ z. rule_numbers z) c.new.ensures.items;
    roots = subst (λ z. AreRoots [] [] z) (sym c.in_ok-with_capacity.ensures.items)
        (record { alike = refl; lie = λ r i rule at root. cc; begin = λ r i rule at root. cc; full = refl });
  },
  c.new-unnumbered.ensures,
)

pub loop-place-preserved : goal.loop-place-preserved
loop-place-preserved c =
    let rs = c.args.rules.now in
    let i = c.loop-place.place in
    let d = get_or rs i c.index-rules-place.result in
    let old = all_nodes (take i rs) in
    let nodes = c.in_ok-root.ensures.nodes old c.loop-place.invariant.0.numbered in
    let long = sym nodes.nodes.alike ∙ c.in_ok-root.ensures.last in
    let at = found_last old (view d.node) c.in_ok-root.root long in
    let roots = root_step (take i rs) d old (postorder (view d.node)) c.loop-place.table.roots.items c.in_ok-root.root at long (length-postorder (view d.node)) c.loop-place.invariant.0.roots in
    let e = take_more rs i c.index-rules-place.result c.loop-place-test.true in
    let m = ap (λ z. all_nodes z) e ∙ nodes_more (take i rs) d in
    let short : i ≤ length rs = (let t = c.loop-place-test.true in omega arith) in
    let own : rules_by_node 0 (take (i + 1) rs) ≡ rules_by_node 0 (take i rs) ++ replicate (size (view d.node)) i =
    ap (λ z. rules_by_node 0 z) e ∙ (rules_more 0 (take i rs) d
    ∙ ap (λ n. rules_by_node 0 (take i rs) ++ replicate (size (view d.node)) n) (let n = length-take-le i rs short in omega arith)) in (
      record {
        of_rules = c.in_ok-root.ensures.rules ∙ (ap (λ z. z ++ replicate (size (view d.node)) i) c.loop-place.invariant.0.of_rules ∙ sym own);
        numbered = subst (λ z. AreNumbered z c.number.new.nodes.items) (sym m) nodes;
        roots = subst (λ z. AreRoots (take (i + 1) rs) (all_nodes (take (i + 1) rs)) z) (sym c.in_ok-push.ensures.items)
            (subst (λ z. AreRoots z (all_nodes (take (i + 1) rs)) (c.loop-place.table.roots.items ++ c.in_ok-root.root ∷ [])) (sym e)
            (subst (λ z. AreRoots (take i rs ++ d ∷ []) z (c.loop-place.table.roots.items ++ c.in_ok-root.root ∷ [])) (sym m) roots));
      },
      c.in_ok-root.ensures.none,
    )
