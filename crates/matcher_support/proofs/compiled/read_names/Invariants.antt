use Rattle.std.proofs.Common.{◌≡◌, List, take}
use Rattle.base_ast.specs.declared.optimized.OptimizedRule.{OptimizedRule}
use Rattle.matcher_program.specs.ExpectedNames.{name_texts}
use Rattle.matcher_support.specs.Compiled.{IsCompiled}
use Rattle.matcher_support.proofs.CompiledNames.{names_of}
use Rattle.matcher_support.proofs.compiled.read_names.Given as goal

abbrev pub invariant-loop-number : goal.invariant-loop-number
invariant-loop-number l = (rules : List OptimizedRule) → IsCompiled rules l.block → name_texts l.names.items ≡ take l.number (names_of rules)
