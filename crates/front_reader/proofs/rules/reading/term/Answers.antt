use Rattle.std.proofs.Common.{arith}
use Rattle.front_nodes.specs.Nodes.{named_trees_of}
use Rattle.front_reader.proofs.Levels.{opened, stand_term}
use Rattle.front_reader.proofs.rules.reading.term.Goals as goal

pub take_signs-requires-clause-nested : goal.take_signs-requires-clause-nested
take_signs-requires-clause-nested c = stand_term c.requires.1

pub operand-requires-clause-nested : goal.operand-requires-clause-nested
operand-requires-clause-nested c =
    let g = c.in_ok-signs.ensures.stand (stand_term c.requires.1) in
    record { from = g.from; to = g.to; nested = rw c.leading_tree-tree.ensures at g.nested }

pub returns-in-Some-clause-work : goal.returns-in-Some-clause-work
returns-in-Some-clause-work c =
    let b = c.in_ok-signs.ensures in
    let o = opened (c.in-Some.ensures c.args.text.now (rw c.leading_tree-tree.ensures at b.shape)) in
    omega (arith, o.smaller, rw c.leading_tree-tree.ensures at b.shorter)

pub returns-in_ok-finish_operand-in-None-clause-goes_on : goal.returns-in_ok-finish_operand-in-None-clause-goes_on
returns-in_ok-finish_operand-in-None-clause-goes_on c = λ us h.
    c.in_ok-finish_operand-in-None.ensures.goes_on us (record {
      term = named_trees_of c.args.trees.now;
      operand = named_trees_of c.in_ok-signs.rest.now;
      stands = h;
      signed = c.in_ok-signs.ensures;
      reads = rw c.leading_tree-tree.ensures c.in_ok-node-in-None.ensures;
    })
