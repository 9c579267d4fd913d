use Rattle.std.proofs.Common.{take}
use Rattle.lint_patterns.specs.Rewritten.{is_optional_name}
use Rattle.front_spanned.specs.Nodes.{rule_views}
use Rattle.lint_warnings.specs.Lists.{HasNames}
use Rattle.lint_patterns.proofs.names.optional_names.Given as goal

abbrev pub invariant-loop-rule : goal.invariant-loop-rule
invariant-loop-rule l = HasNames (is_optional_name (rule_views (take l.rule-index l.rules))) l.names
