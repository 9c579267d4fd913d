use Rattle.std.proofs.Common.{◌≡◌, Bool, length}
use Rattle.std.specs.List.{list_any}
use Rattle.base_language.specs.Language.Text.{Text}
use Rattle.front_spanned.specs.Nodes.{rule_view}
use Rattle.front_spanned.specs.Walk.{waiting}
use Rattle.lint_warnings.specs.Lists.{HasNames}
use Rattle.lint_patterns.specs.Ends.{asks_at, asks_end}
use Rattle.lint_patterns.proofs.ends.asks_end.Given as goal

abbrev pub invariant-loop-next : goal.invariant-loop-next
invariant-loop-next l = (f : Text → Bool) → HasNames f l.known
    → list_any (asks_at f) (waiting l.stack.items) ≡ asks_end f (rule_view l.fn.rule)

abbrev pub decreases-loop-next : goal.decreases-loop-next
decreases-loop-next l = length (waiting l.stack.items)
