use Rattle.std.proofs.Common.{◌≡◌, ◌+◌}
use Rattle.front_spanned.specs.Nodes.{view}
use Rattle.lint_patterns.specs.CopyLists.{nodes_left}
use Rattle.lint_patterns.specs.Sizes.{nodes, nodes_on}
use Rattle.lint_patterns.proofs.sizes.subtract_nodes.Given as goal

abbrev pub invariant-loop-next : goal.invariant-loop-next
invariant-loop-next l = nodes 1 (view l.body) + l.left ≡ l.most + nodes_on l.stack.items

abbrev pub decreases-loop-next : goal.decreases-loop-next
decreases-loop-next l = nodes_left l.stack.items
