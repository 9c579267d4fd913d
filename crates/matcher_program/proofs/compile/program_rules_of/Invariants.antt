use Rattle.std.proofs.Common.{◌≡◌, ℕ, ◌<◌, get_or, length, map, take}
use Rattle.base_ast.specs.Optimized.{optimized_rule_of, optimized_rules_of}
use Rattle.matcher_program.specs.declared.form.ProgramRule.{ProgramRule}
use Rattle.matcher_program.specs.Programs.{IsProgramRule, grammar_rule}
use Rattle.matcher_program.specs.Compiled.{names_in}
use Rattle.matcher_program.proofs.compile.program_rules_of.Given as goal

abbrev pub invariant-loop-rule : goal.invariant-loop-rule
invariant-loop-rule l = record {
  says : map (grammar_rule (names_in (optimized_rules_of l.rules.rules.now))) l.program_rules.items ≡ map optimized_rule_of (take l.rule-index l.rules.rules.now);
  sound : (i : ℕ) (d : ProgramRule) → i < length l.program_rules.items → IsProgramRule (optimized_rules_of l.rules.rules.now) (names_in (optimized_rules_of l.rules.rules.now)) l.properties (get_or l.program_rules.items i d);
}
