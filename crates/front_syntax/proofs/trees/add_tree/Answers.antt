use Rattle.std.proofs.Common.{rules, ◌≡◌, ◌∙◌, sym, ap, ap₂, ◌-◌, ◌++◌, length, reverse, suc, arith, vec_len}
use Rattle.std.proofs.lemmas.List.{length-drop, take-append-drop}
use Rattle.base_language.specs.Pieces.TokenTrees.{NoTokens, Token}
use Rattle.base_language.specs.Pieces.TreeViews.{trees_of}
use Rattle.front_syntax.specs.Building.{first_sizes}
use Rattle.front_syntax.proofs.Building.{tree_added}
use Rattle.front_syntax.proofs.trees.add_tree.Goals as goal

pub returns-clause-trees : goal.returns-clause-trees
returns-clause-trees c =
    let t = c.args.node in
    let old = c.args.trees.now.items in
    let inner = c.in_ok-inner.inner.items in
    let sizes = reverse c.args.sizes.now.items in
    let cut = c.in_ok-inner.ensures in
    let place = c.len.result - c.take_sizes-count.result in
    let long : vec_len c.args.trees.now ≡ length old = search rules in
    let less : c.saturating_sub.result ≡ t.after - suc c.args.number = omega (arith, c.saturating_sub.ensures, c.saturating_sub-size.ensures) in
    let count : c.take_sizes-count.result ≡ length (first_sizes (t.after - suc c.args.number) sizes) =
    c.take_sizes-count.ensures.count ∙ ap (λ n. length (first_sizes n sizes)) less in
    let size : length inner ≡ c.take_sizes-count.result =
    omega (arith, ap length cut.tail ∙ length-drop place old, c.len.ensures, c.take_sizes-count.ensures.fewer, c.requires) in
    tree_added old c.split_off.new.self.items inner c.push.new.self.items c.new.result t _
    (sym (take-append-drop place old) ∙ ap₂ (λ a b. a ++ b) (sym cut.items) (sym cut.tail))
    (size ∙ count)
    (c.new.ensures ∙ ap (λ r. Token r t.start t.end (trees_of inner) NoTokens) c.rule_at.ensures)
    c.in_ok-push.ensures.items
