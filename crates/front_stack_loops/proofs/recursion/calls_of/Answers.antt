use Rattle.std.proofs.Common.{subst}
use Rattle.front_stack_loops.specs.Leading.{AreRanked}
use Rattle.front_stack_loops.proofs.RankLemmas.{all_exact}
use Rattle.front_stack_loops.proofs.recursion.calls_of.Goals as goal

pub returns-then-are_ranked : goal.returns-then-are_ranked
returns-then-are_ranked c =
    let ns = c.args.nodes.now in
    let roots = c.args.roots.now in
    let flags = c.in_ok-recursive.recursive.items in
    let ranks = c.in_ok-ranks.ranks.items in
    let ranked : AreRanked ns roots flags ranks = subst (λ z. AreRanked ns roots z ranks) c.as_slice-4.ensures.value
    (subst (λ z. AreRanked ns roots c.as_slice-4.result.now z) c.as_slice-5.ensures.value (c.are_ranked.ensures c.if-are_ranked.true)) in
    all_exact ns roots flags ranks ranked (λ r h. c.in_ok-recursive.ensures r h)
