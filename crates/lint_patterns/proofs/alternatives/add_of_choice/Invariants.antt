use Rattle.std.proofs.Common.{◌++◌, List, map, length}
use Rattle.front_spanned.specs.Nodes.{piece_of, view}
use Rattle.front_spanned.specs.Spanned.{Spanned}
use Rattle.front_spanned.specs.Walk.{waiting}
use Rattle.lint_patterns.specs.Duplicates.{repeated_at}
use Rattle.lint_patterns.specs.DuplicateLists.{CollectsRepeated}
use Rattle.lint_warnings.specs.Lists.{left_over}
use Rattle.lint_patterns.proofs.alternatives.add_of_choice.Given as goal

abbrev pub invariant-loop-next : goal.invariant-loop-next
invariant-loop-next l =
    (earlier : List Spanned) × CollectsRepeated (map piece_of l.fn.found.items ++ repeated_at (view l.fn.whole)) earlier
    (left_over l.stack.items) l.seen (map piece_of l.found.items)

abbrev pub decreases-loop-next : goal.decreases-loop-next
decreases-loop-next l = length (waiting l.stack.items)
