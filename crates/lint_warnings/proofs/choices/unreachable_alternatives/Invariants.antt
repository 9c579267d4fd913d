use Rattle.std.proofs.Common.{◌≡◌, map, take}
use Rattle.std.specs.Prelude.{flat_map}
use Rattle.front_spanned.specs.Nodes.{piece_of}
use Rattle.lint_warnings.specs.Groups.{pieces_of}
use Rattle.lint_warnings.proofs.choices.unreachable_alternatives.Given as goal

abbrev pub invariant-loop-choice : goal.invariant-loop-choice
invariant-loop-choice l = map piece_of l.found.items ≡ flat_map pieces_of (take l.choice-index l.choice-items)
