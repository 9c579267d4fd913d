use Rattle.std.proofs.Common.{◌≤◌, ◌+◌, drop}
use Rattle.matcher_compiler.specs.Extents.{count_program_rules}
use Rattle.matcher_compiler.proofs.extent.size_of.Given as goal

abbrev pub invariant-loop-program_rule : goal.invariant-loop-program_rule
invariant-loop-program_rule l = l.size + count_program_rules (drop l.program_rule-index l.program.rules.items) ≤ count_program_rules l.program.rules.items
