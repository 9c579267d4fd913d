use Rattle.std.proofs.Common.{◌≡◌, ◌++◌, false, map}
use Rattle.front_spanned.specs.Nodes.{piece_of, view}
use Rattle.lint_patterns.specs.Duplicates.{repeated_in}
use Rattle.lint_patterns.specs.DuplicateLists.{nodes_left, spans_left}
use Rattle.lint_patterns.proofs.alternatives.add_of_body.Given as goal

abbrev pub invariant-loop-next : goal.invariant-loop-next
invariant-loop-next l = map piece_of l.found.items ++ spans_left l.stack.items ≡ map piece_of l.fn.found.items ++ repeated_in false (view l.fn.body)

abbrev pub decreases-loop-next : goal.decreases-loop-next
decreases-loop-next l = nodes_left l.stack.items
