use Rattle.std.proofs.Common.{◌≡◌, take}
use Rattle.base_ast.specs.Ast.{rules_of}
use Rattle.pest_run.proofs.grammars.copy_rules.Given as goal

abbrev pub invariant-loop-rule : goal.invariant-loop-rule
invariant-loop-rule l = rules_of l.copy.value.items ≡ rules_of (take l.rule-index l.rules)
