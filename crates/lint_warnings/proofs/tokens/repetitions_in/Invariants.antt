use Rattle.std.proofs.Common.{◌≡◌, ◌++◌, Bool, map, length}
use Rattle.std.specs.Prelude.{flat_map}
use Rattle.base_language.specs.Language.Text.{Text}
use Rattle.front_spanned.specs.Nodes.{piece_of, view}
use Rattle.front_spanned.specs.Walk.{waiting}
use Rattle.lint_warnings.specs.Lists.{HasNames}
use Rattle.lint_warnings.specs.Tokens.{repetition_at, repetitions_in}
use Rattle.lint_warnings.proofs.tokens.repetitions_in.Given as goal

abbrev pub invariant-loop-next : goal.invariant-loop-next
invariant-loop-next l = (f : Text → Bool) → HasNames f l.classes
    → map piece_of l.found.items ++ flat_map (repetition_at f) (waiting l.stack.items)
    ≡ repetitions_in f (view l.fn.body)

abbrev pub decreases-loop-next : goal.decreases-loop-next
decreases-loop-next l = length (waiting l.stack.items)
