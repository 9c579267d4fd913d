use Rattle.std.proofs.Common.{◌≡◌, take}
use Rattle.base_ast.specs.Ast.{rules_of}
use Rattle.front_spanned.specs.Erasure.{rules_without_spans}
use Rattle.front_spanned.specs.Nodes.{rule_views}
use Rattle.front_spanned.proofs.copies.copy_rules.Given as goal

abbrev pub invariant-loop-rule : goal.invariant-loop-rule
invariant-loop-rule l = rules_of l.copies.value.items ≡ rules_without_spans (rule_views (take l.rule-index l.rules))
