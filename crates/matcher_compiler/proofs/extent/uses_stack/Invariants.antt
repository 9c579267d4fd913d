use Rattle.std.proofs.Common.{◌≡◌, drop}
use Rattle.matcher_compiler.specs.Extents.{program_rules_stack}
use Rattle.matcher_compiler.proofs.extent.uses_stack.Given as goal

abbrev pub invariant-loop-program_rule : goal.invariant-loop-program_rule
invariant-loop-program_rule l = program_rules_stack (drop l.program_rule-index l.program.rules.items) ≡ program_rules_stack l.program.rules.items
