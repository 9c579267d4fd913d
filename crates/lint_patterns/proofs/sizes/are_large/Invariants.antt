use Rattle.std.proofs.Common.{◌≡◌, ◌+◌, drop}
use Rattle.front_spanned.specs.Nodes.{rule_views}
use Rattle.lint_patterns.specs.Sizes.{nodes_of_rules}
use Rattle.lint_patterns.proofs.sizes.are_large.Given as goal

abbrev pub invariant-loop-rule : goal.invariant-loop-rule
invariant-loop-rule l = nodes_of_rules (rule_views l.rules) + l.left ≡ 1000000 + nodes_of_rules (rule_views (drop l.rule-index l.rules))
