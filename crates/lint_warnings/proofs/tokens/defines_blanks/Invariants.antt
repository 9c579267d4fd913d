use Rattle.std.proofs.Common.{◌≡◌, drop}
use Rattle.front_spanned.specs.Nodes.{rule_views}
use Rattle.lint_warnings.specs.Tokens.{defines_blanks}
use Rattle.lint_warnings.proofs.tokens.defines_blanks.Given as goal

abbrev pub invariant-loop-rule : goal.invariant-loop-rule
invariant-loop-rule l = defines_blanks (rule_views (drop l.rule-index l.rules)) ≡ defines_blanks (rule_views l.rules)
