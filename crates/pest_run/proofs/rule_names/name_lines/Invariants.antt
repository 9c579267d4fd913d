use Rattle.std.proofs.Common.{◌≡◌, take}
use Rattle.std.specs.Prelude.{string_bytes}
use Rattle.base_ast.specs.Ast.{rules_of}
use Rattle.pest_run.specs.RuleNames.{name_lines}
use Rattle.pest_run.proofs.rule_names.name_lines.Given as goal

abbrev pub invariant-loop-rule : goal.invariant-loop-rule
invariant-loop-rule l = string_bytes l.lines ≡ name_lines (rules_of (take l.rule-index l.rules))
