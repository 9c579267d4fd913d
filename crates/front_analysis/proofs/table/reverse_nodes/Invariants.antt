use Rattle.std.proofs.Common.{◌≡◌, ◌++◌, length}
use Rattle.front_analysis.specs.Layout.{all_below, forwards}
use Rattle.front_analysis.proofs.table.reverse_nodes.Given as goal

abbrev pub invariant-loop-next : goal.invariant-loop-next
invariant-loop-next l = all_below l.waiting.items ++ forwards l.inside.items ≡ all_below l.fn.waiting.items

abbrev pub decreases-loop-next : goal.decreases-loop-next
decreases-loop-next l = length (all_below l.waiting.items)
