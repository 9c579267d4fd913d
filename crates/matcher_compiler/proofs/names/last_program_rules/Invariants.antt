use Rattle.std.proofs.Common.{ℕ, List, ◌≡◌, ◌<◌, ◌≤◌, None, Some, chars, drop, get_or, length}
use Rattle.std.specs.HashMap.{get_by_text}
use Rattle.std.specs.Str.{IsUtf8}
use Rattle.base_language.specs.Language.Expression.{last_place}
use Rattle.matcher_program.specs.Programs.{grammar_of, name_at, names_of}
use Rattle.matcher_compiler.proofs.names.last_program_rules.Given as goal

abbrev pub invariant-loop-below : goal.invariant-loop-below
invariant-loop-below l = record {
  within : l.below ≤ length l.program_rules;
  long : length l.lasts.items ≡ length l.program_rules;
  none : (name : List ℕ) → IsUtf8 name → get_by_text l.later name ≡ None
      → last_place (drop l.below (grammar_of l.program_rules)) (chars name) ≡ None;
  found : (name : List ℕ) (i : ℕ) → IsUtf8 name → get_by_text l.later name ≡ Some i
      → last_place (grammar_of l.program_rules) (chars name) ≡ Some i;
  last : (i : ℕ) → l.below ≤ i → i < length l.program_rules
      → last_place (grammar_of l.program_rules) (name_at (names_of l.program_rules) i) ≡ Some (get_or l.lasts.items i 0);
}

abbrev pub decreases-loop-below : goal.decreases-loop-below
decreases-loop-below l = l.below
