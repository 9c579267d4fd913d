use Rattle.std.proofs.Common.{List, map, length}
use Rattle.front_spanned.specs.Nodes.{piece_of, view}
use Rattle.front_spanned.specs.Spanned.{Spanned}
use Rattle.front_spanned.specs.Walk.{waiting}
use Rattle.lint_warnings.specs.Choices.{unreachable_at}
use Rattle.lint_warnings.specs.Lists.{CollectsUnreachable, left_over}
use Rattle.lint_warnings.proofs.choices.unreachable_of.Given as goal

abbrev pub invariant-loop-next : goal.invariant-loop-next
invariant-loop-next l =
    (earlier : List Spanned) × CollectsUnreachable (unreachable_at (view l.fn.whole)) earlier
    (left_over l.stack.items) l.literals l.calls (map piece_of l.found.items)

abbrev pub decreases-loop-next : goal.decreases-loop-next
decreases-loop-next l = length (waiting l.stack.items)
