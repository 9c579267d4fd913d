-- What ranges hold, by both definitions of it.
use Rattle.std.proofs.Common.{◌≡◌, ◌∙◌, refl, ap, ℕ, ◌<◌, List, [], ◌∷◌, Some, ◌&&◌, ◌||◌, nat_le, arith}
use Rattle.matcher_program.specs.Programs.{is_in_ranges}
use Rattle.matcher_support.specs.Sets.{is_in_property}
use Rattle.ucd_sets.specs.Lookup.{by_name}
use Rattle.ucd_sets.specs.Loose.{normalize}
use Rattle.ucd_sets.specs.Sets.{in_set}
use Rattle.ucd_sets.specs.declared.set.Set.{Set}
use Rattle.ucd_table.specs.Rows.{HasExactly, in_ranges}

-- both definitions say the same
same_ranges : (ranges : List (ℕ × ℕ)) (c : ℕ) → is_in_ranges ranges c ≡ in_ranges ranges c
unfolding in_ranges
same_ranges [] c = refl
same_ranges (r ∷ ranges) c = ap (λ others. (nat_le r.0 c && nat_le c r.1) || others) (same_ranges ranges c)

-- the ranges of a name's set hold the characters of the name's property
pub of_name : (name : List ℕ) (set : Set) (ranges : List (ℕ × ℕ)) → by_name (normalize name) ≡ Some set
    → HasExactly ranges (in_set set) → (c : ℕ) → c < 1114112 → is_in_ranges ranges c ≡ is_in_property name c
of_name name set ranges is holds c below = same_ranges ranges c ∙ (holds c (omega arith) ∙ rw is refl)
