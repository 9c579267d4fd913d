use Rattle.matcher_code.specs.Lists.{is_covered}
use Rattle.std.proofs.Common.{◌≡◌, ◌<◌, ◌||◌, ℕ, true}
use Rattle.matcher_program.specs.Programs.{characters_of, is_set}
use Rattle.matcher_sets.proofs.ranges.ranges_of.Given as goal

abbrev pub invariant-alternatives : goal.invariant-alternatives
invariant-alternatives l = record {
  set : is_set l.rest ≡ true;
  same : (x : ℕ) → x < 1114112 → (is_covered l.ranges.items x || characters_of l.rest x) ≡ characters_of l.form x;
}
