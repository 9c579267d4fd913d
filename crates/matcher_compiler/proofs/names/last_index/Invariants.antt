use Rattle.std.proofs.Common.{◌≡◌, None, chars, drop, ◌≤◌, length}
use Rattle.base_language.specs.Language.Expression.{last_place}
use Rattle.matcher_program.specs.Programs.{grammar_of}
use Rattle.matcher_compiler.proofs.names.last_index.Given as goal

abbrev pub invariant-loop-below : goal.invariant-loop-below
invariant-loop-below l = record {
  within : l.below ≤ length l.program_rules;
  none : last_place (drop l.below (grammar_of l.program_rules)) (chars l.name) ≡ None;
}

abbrev pub decreases-loop-below : goal.decreases-loop-below
decreases-loop-below l = l.below
