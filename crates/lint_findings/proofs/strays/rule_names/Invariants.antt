use Rattle.std.proofs.Common.{◌≡◌, map, take}
use Rattle.front_spanned.specs.Nodes.{rule_views}
use Rattle.lint_warnings.specs.Lists.{texts_of}
use Rattle.lint_findings.proofs.strays.rule_names.Given as goal

abbrev pub invariant-loop-rule : goal.invariant-loop-rule
invariant-loop-rule l = texts_of l.names.items ≡ map (λ rule. rule.name) (rule_views (take l.rule-index l.rules))
