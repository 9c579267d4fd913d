use Rattle.std.proofs.Common.{◌≡◌, ◌-◌, length, rules, arith, vec_len}
use Rattle.front_nodes.proofs.Writing.{inner_set, with_inner-beyond}
use Rattle.front_nodes.proofs.forest.close_tree.Goals as goal

pub returns-in-Ok : goal.returns-in-Ok
returns-in-Ok c =
    let ns = c.args.nodes.now.items in
    let long : vec_len c.args.nodes.now ≡ length ns = search rules in
    let inner : c.in-Ok.inner ≡ length ns - c.args.number - 1 = omega (arith, c.in-Ok.ensures, c.len-count.ensures, long) in
    inner_set ns c.args.number c.in-Ok.inner c.index_mut.result.now (omega (arith, c.if-number-count.true, c.len-count.ensures, long)) c.index_mut.ensures.value inner

pub returns-else-number-count : goal.returns-else-number-count
returns-else-number-count c =
    let ns = c.args.nodes.now.items in
    let long : vec_len c.args.nodes.now ≡ length ns = search rules in
    with_inner-beyond ns c.args.number (omega (arith, c.if-number-count.false, c.len-count.ensures, long))
