-- Sets that a program has.
use Rattle.std.specs.Prelude.{◌<◌, ℕ, List, get_or, length}
use Rattle.matcher_code.specs.declared.code.Code.{Code}
use Rattle.matcher_code.specs.Lists.{lists_of}
use Rattle.matcher_code.specs.Sets.{IsSetOf}
use Rattle.matcher_compiler.specs.declared.sets.KnownSet.{KnownSet}

-- a set of the program has the characters in these ranges
pub record IsKnownIn (sets : Code) (set : ℕ) (ranges : List (ℕ × ℕ)) : Type 0 where
  pub within : set < length sets.ranges.items
  pub is : IsSetOf (lists_of sets) set ranges

-- so it is of each set of a list
abbrev pub AreKnownIn : Code → List KnownSet → Type 0
AreKnownIn sets known = (i : ℕ) (d : KnownSet) → i < length known
    → IsKnownIn sets (get_or known i d).number (get_or known i d).ranges.items
