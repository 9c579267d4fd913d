-- Ranges that match nothing.
use Rattle.std.specs.Prelude.{◌∷◌, Bool, false, nat_lt}
use Rattle.base_language.specs.Language.Text.{Text}
use Rattle.base_language.specs.Language.Expression.{Expression, Range}
use Rattle.front_spanned.specs.Spanned.{Spanned, Leaf}

-- the first character of a text is above that of another
abbrev pub is_above : Text → Text → Bool
is_above (a ∷ t) (b ∷ u) = nat_lt b a
is_above _ _ = false

abbrev pub is_reversed_range : Expression → Bool
is_reversed_range (Range a b) = is_above a b
is_reversed_range _ = false

-- a range whose first bound is above its last
abbrev pub is_reversed : Spanned → Bool
is_reversed (Leaf s e) = is_reversed_range e
is_reversed _ = false
