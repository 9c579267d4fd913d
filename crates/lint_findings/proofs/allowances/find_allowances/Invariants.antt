use Rattle.std.proofs.Common.{◌≡◌, ◌++◌, drop}
use Rattle.std.specs.Str.{IsCharBoundary}
use Rattle.front_spanned.specs.Nodes.{rule_views}
use Rattle.lint_findings.specs.Allowances.{ArePartsOf, allowances_from, allowances_in}
use Rattle.lint_findings.proofs.allowances.find_allowances.Given as goal

-- the allowances found, and those that the rules left will give
abbrev pub invariant-loop-rule : goal.invariant-loop-rule
invariant-loop-rule l = record {
  bound : ArePartsOf l.text (rule_views l.rules) → IsCharBoundary l.text l.from;
  whole : ArePartsOf l.text (rule_views l.rules)
      → l.found.items ++ allowances_from l.text l.from (rule_views (drop l.rule-index l.rules)) ≡ allowances_in l.text (rule_views l.rules);
}
