use Rattle.std.proofs.Common.{arith}
use Rattle.front_nodes.proofs.NodeLemmas.{first_of}
use Rattle.front_nodes.proofs.nodes.first_tree.Goals as goal

pub returns : goal.returns
returns c =
    first_of c.args.nodes.now c.split_at.result.0.now c.split_at.result.1.now _ c.min-count.result _ (omega (arith, c.in-len1-up.len_at_least)) (omega arith) c.min-count.ensures c.split_at.ensures.front c.split_at.ensures.back
