use Rattle.std.proofs.Common.{◌≡◌, ◌∙◌, ◌∷◌, ◌++◌, [], ap, length, rules, arith, vec_len}
use Rattle.base_language.specs.Pieces.TreeViews as of_code
use Rattle.front_nodes.proofs.Writing.{ends, opens}
use Rattle.front_nodes.proofs.forest.write_nodes.Goals as goal

pub trees-preserved-in-Some : goal.trees-preserved-in-Some
trees-preserved-in-Some c =
    let ns = c.trees.nodes.items in
    let tree = c.in-Some.tree in
    let long : vec_len c.trees.nodes ≡ length ns = search rules in
    let number : c.len.result ≡ length ns = omega (arith, c.len.ensures, long) in
    opens c.trees.begun.items c.push.new.self.items (record { number = c.len.result; others = tree.others }) ns c.push-in-Some.new.self.items
    (of_code.trees_of c.trees.rest.now) (of_code.trees_of tree.inner.now) tree.rule tree.start tree.end
    c.in_ok-push-in-Some.ensures.items number
    (c.in_ok-push-in-Some-2.ensures.items ∙ ap (λ n. ns ++ n ∷ []) c.in_ok-node_at-in-Some.ensures)
    c.in-Some.ensures
    ∙ c.trees.invariant

pub trees-preserved : goal.trees-preserved
trees-preserved c =
    ends c.trees.begun.items c.pop.new.self.items c.in-Some-pop.last c.trees.nodes.items c.close_tree.new.nodes.items (of_code.trees_of c.trees.rest.now)
    c.in-Some-pop.ensures.items c.in-None.ensures c.in_ok-close_tree-in-Some-pop.ensures
    ∙ c.trees.invariant
