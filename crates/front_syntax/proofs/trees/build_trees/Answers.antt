use Rattle.std.proofs.Common.{◌≡◌, ◌∙◌, ap, drop, arith}
use Rattle.front_syntax.specs.Building.{trees_from}
use Rattle.front_syntax.proofs.Building.{all_built}
use Rattle.front_syntax.proofs.trees.build_trees.Goals as goal

pub returns : goal.returns
returns c = λ us x.
    let z : c.loop-left.left ≡ 0 = omega arith in
    c.loop-left.invariant.trees ∙ (ap (λ n. trees_from n (drop n c.args.nodes.now)) z ∙ all_built c.args.nodes.now us x)
