-- Ranges and the characters that they have.
use Rattle.matcher_code.specs.Lists.{is_covered}
use Rattle.std.specs.Prelude.{◌≡◌, ◌<◌, ◌||◌, ℕ, Bool, List}

-- the ranges have the characters of a set
abbrev pub Covers : List (ℕ × ℕ) → (ℕ → Bool) → Type 0
Covers ranges set = (c : ℕ) → c < 1114112 → is_covered ranges c ≡ set c

-- the ranges have the characters of a set besides those that they had
abbrev pub Adds : List (ℕ × ℕ) → List (ℕ × ℕ) → (ℕ → Bool) → Type 0
Adds old new set = (c : ℕ) → c < 1114112 → is_covered new c ≡ (is_covered old c || set c)
