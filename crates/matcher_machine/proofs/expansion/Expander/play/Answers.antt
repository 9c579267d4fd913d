use Rattle.std.proofs.Common.{◌≡◌, ◌∙◌, ap, length, reverse, rules}
use Rattle.std.proofs.lemmas.Result.{on_ok_weaker}
use Rattle.matcher_code.specs.Steps.{close_tree}
use Rattle.matcher_machine.proofs.Expanding.{leaf_played}
use Rattle.matcher_machine.proofs.expansion.Expander.play.Goals as goal

pub returns-in_ok-open-in-Leaf-clause-trees : goal.returns-in_ok-open-in-Leaf-clause-trees
returns-in_ok-open-in-Leaf-clause-trees c =
    let old = c.args.self.now in
    let ts = old.machine.trees.items in
    let rule = c.in-Leaf.rule in
    let at = c.in-Leaf.at in
    let n : c.len-number.result ≡ length ts = search rules in
    on_ok_weaker c.close-in-Leaf.result (λ e.
    rw c.in-Leaf.is (ap (λ us. record { open_trees = reverse old.unended.items; trees = us })
    (e ∙ (ap (λ k. close_tree k at c.open-in-Leaf.new.self.trees.items) n ∙ (ap (close_tree (length ts) at) c.in_ok-open-in-Leaf.ensures.trees ∙ leaf_played rule at ts))))) c.close-in-Leaf.ensures.trees
