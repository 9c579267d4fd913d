use Rattle.std.proofs.Common.{◌≡◌, length}
use Rattle.std.specs.Prelude.{flat_map}
use Rattle.front_spanned.specs.Nodes.{rule_view}
use Rattle.front_spanned.specs.Walk.{waiting}
use Rattle.lint_warnings.specs.Rules.{is_start, name_called, names_end}
use Rattle.lint_warnings.proofs.rules.is_start.Given as goal

abbrev pub invariant-loop-next : goal.invariant-loop-next
invariant-loop-next l = names_end (flat_map name_called (waiting l.stack.items)) ≡ is_start (rule_view l.fn.rule)

abbrev pub decreases-loop-next : goal.decreases-loop-next
decreases-loop-next l = length (waiting l.stack.items)
