use Rattle.std.proofs.Common.{◌≡◌, ◌++◌, map, length}
use Rattle.std.specs.Prelude.{flat_map}
use Rattle.front_spanned.specs.Nodes.{piece_of, view}
use Rattle.front_spanned.specs.Walk.{waiting}
use Rattle.lint_warnings.specs.Suspects.{suspects_at, suspects_in}
use Rattle.lint_warnings.proofs.suspects.add_of_body.Given as goal

abbrev pub invariant-loop-next : goal.invariant-loop-next
invariant-loop-next l =
    map piece_of l.found.items ++ flat_map (suspects_at l.reason) (waiting l.stack.items)
    ≡ map piece_of l.fn.found.items ++ suspects_in l.fn.reason (view l.fn.body)

abbrev pub decreases-loop-next : goal.decreases-loop-next
decreases-loop-next l = length (waiting l.stack.items)
