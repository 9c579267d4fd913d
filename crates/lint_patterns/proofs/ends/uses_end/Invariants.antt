use Rattle.std.proofs.Common.{◌≡◌, drop}
use Rattle.front_spanned.specs.Nodes.{rule_views}
use Rattle.lint_warnings.specs.Lists.{HasNames}
use Rattle.lint_patterns.specs.Ends.{no_name, uses_end}
use Rattle.lint_patterns.proofs.ends.uses_end.Given as goal

abbrev pub invariant-loop-rule : goal.invariant-loop-rule
invariant-loop-rule l = (uses_end (rule_views (drop l.rule-index l.rules)) ≡ uses_end (rule_views l.rules))
    × HasNames no_name l.none
