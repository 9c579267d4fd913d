use Rattle.std.proofs.Common.{◌≡◌, ◌++◌, map}
use Rattle.front_spanned.specs.Nodes.{piece_of, view}
use Rattle.lint_patterns.specs.Copies.{many_in}
use Rattle.lint_patterns.specs.CopyLists.{left_over, nodes_left}
use Rattle.lint_patterns.proofs.copies.add_of_body.Given as goal

abbrev pub invariant-loop-next : goal.invariant-loop-next
invariant-loop-next l = map piece_of l.found.items ++ left_over l.stack.items ≡ map piece_of l.fn.found.items ++ many_in (view l.fn.body)

abbrev pub decreases-loop-next : goal.decreases-loop-next
decreases-loop-next l = nodes_left l.stack.items
