-- Whether text is in colours.
use Rattle.std.specs.Prelude.{ℕ, ◌==◌, ◌&&◌, Bool, false, not, List, Option, Some, None, bytes_eq, codes, length, option_map}
use Rattle.std.specs.Borrow.{Bor}

-- the value of an option, or of a variable, if it has one
abbrev pub value_of : Option (Bor (List ℕ)) → Option (List ℕ)
value_of value = option_map (λ text. text.now) value

-- TERM names a terminal without colours
abbrev pub is_dumb : Option (List ℕ) → Bool
is_dumb None = false
is_dumb (Some term) = bytes_eq term (codes "dumb")

-- a variable has a value that is not empty
abbrev pub has_value : Option (List ℕ) → Bool
has_value None = false
has_value (Some value) = not (length value == 0)

-- a terminal shows colours that nobody asks for, unless it has none, or NO_COLOR has a value
abbrev pub is_colourful : Bool → (term no_color : Option (List ℕ)) → Bool
is_colourful is_terminal term no_color = is_terminal && not (is_dumb term) && not (has_value no_color)
