use Rattle.std.proofs.Common.{◌≡◌, ◌++◌}
use Rattle.format_binary.specs.Nodes.{bytes_in_turn, heft_in_turn}
use Rattle.format_binary.proofs.expressions.push_expression.Given as goal

-- the bytes of what waits come behind what is written
abbrev pub invariant-loop-next : goal.invariant-loop-next
invariant-loop-next g l =
    l.out.items ++ bytes_in_turn g.E.AsNodes.bytes l.waiting.items ≡ l.fn.out.items ++ g.E.AsNodes.bytes l.expr

abbrev pub decreases-loop-next : goal.decreases-loop-next
decreases-loop-next g l = heft_in_turn g.E.AsNodes.heft l.waiting.items
