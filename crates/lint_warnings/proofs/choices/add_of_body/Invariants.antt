use Rattle.std.proofs.Common.{◌≡◌, ◌++◌, map, length}
use Rattle.std.specs.Prelude.{flat_map}
use Rattle.front_spanned.specs.Nodes.{view}
use Rattle.front_spanned.specs.Walk.{waiting}
use Rattle.lint_warnings.specs.Choices.{choices_in, choices_in_parts}
use Rattle.lint_warnings.specs.Groups.{pieces_of}
use Rattle.lint_warnings.proofs.choices.add_of_body.Given as goal

abbrev pub invariant-loop-next : goal.invariant-loop-next
invariant-loop-next l =
    map pieces_of l.found.items ++ flat_map choices_in_parts (waiting l.stack.items)
    ≡ map pieces_of l.fn.found.items ++ choices_in (view l.fn.body)

abbrev pub decreases-loop-next : goal.decreases-loop-next
decreases-loop-next l = length (waiting l.stack.items)
