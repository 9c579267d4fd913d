use Rattle.std.proofs.Common.{◌≡◌, Bool, length}
use Rattle.base_language.specs.Language.Text.{Text}
use Rattle.front_spanned.specs.Nodes.{view}
use Rattle.front_spanned.specs.Walk.{waiting}
use Rattle.lint_warnings.specs.Lists.{HasNames}
use Rattle.lint_warnings.specs.Tokens.{is_class}
use Rattle.lint_warnings.proofs.Classes.{is_rest}
use Rattle.lint_warnings.proofs.tokens.is_class.Given as goal

abbrev pub invariant-loop-next : goal.invariant-loop-next
invariant-loop-next l = (f : Text → Bool) → HasNames f l.classes
    → is_rest f l.has_class (waiting l.stack.items) ≡ is_class f (view l.fn.node)

abbrev pub decreases-loop-next : goal.decreases-loop-next
decreases-loop-next l = length (waiting l.stack.items)
