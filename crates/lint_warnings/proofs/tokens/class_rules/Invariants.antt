use Rattle.front_spanned.specs.Nodes.{rule_views}
use Rattle.lint_warnings.specs.Lists.{HasNames}
use Rattle.lint_warnings.specs.Tokens.{is_class_rule}
use Rattle.lint_warnings.proofs.tokens.class_rules.Given as goal

abbrev pub invariant-loop-calls : goal.invariant-loop-calls
invariant-loop-calls l = HasNames (is_class_rule l._calls (rule_views l.rules)) l.names
