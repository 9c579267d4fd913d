use Rattle.std.proofs.Common.{take}
use Rattle.base_ast.specs.Optimized.{optimized_rules_of}
use Rattle.matcher_program.specs.Indexed.{KnowsLast}
use Rattle.matcher_program.proofs.indexed.index_rules.Given as goal

abbrev pub invariant-loop-number : goal.invariant-loop-number
invariant-loop-number l = KnowsLast (optimized_rules_of (take l.number l.rules)) l.numbers
