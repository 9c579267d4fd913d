-- Questions in the parameters of a request.
use Rattle.std.specs.Prelude.{ℕ, List, Bool, ◌||◌, false, Option, Some, None, bytes_eq, option_and_then, option_map, unwrap_or, codes}
use Rattle.serde_json.specs.Data.{Data, Items, no_items, item}
use Rattle.serde_json.specs.Find.{as_array, as_bool, as_number, as_str, as_u64, get, pointer}
use Rattle.server_protocol.specs.declared.positions.Position.{Position}

-- the text at a path
abbrev pub text_in : List ℕ → Data → Option (List ℕ)
text_in path d = option_and_then as_str (pointer path d)

-- the number at a path
abbrev pub number_in : List ℕ → Data → Option ℕ
number_in path d = option_and_then as_u64 (option_and_then as_number (pointer path d))

-- whether there is `true` at a path
abbrev pub is_true_in : List ℕ → Data → Bool
is_true_in path d = unwrap_or (option_and_then as_bool (pointer path d)) false

-- whether an item is a text
abbrev pub is_text : List ℕ → Data → Bool
is_text text d = unwrap_or (option_map (λ s. bytes_eq s text) (as_str d)) false

-- whether a text is among items
abbrev pub has_item : List ℕ → Items → Bool
has_item text no_items = false
has_item text (item d ds) = is_text text d || has_item text ds

-- whether there is a list with a text at a path
abbrev pub lists_in : List ℕ → List ℕ → Data → Bool
lists_in path text d =
    unwrap_or (option_map (has_item text) (option_and_then as_array (pointer path d))) false

-- the position of a line and a character
abbrev pub position_from : Option ℕ → Option ℕ → Option Position
position_from None character = None
position_from (Some line) None = None
position_from (Some line) (Some character) = Some (record { line = line; character = character })

-- a position, if it has a line and a character
abbrev pub position_in : Data → Option Position
position_in d = position_from (number_in (codes "/line") d) (number_in (codes "/character") d)

-- the position in parameters
abbrev pub asked_position : Data → Option Position
asked_position d = option_and_then position_in (get (codes "position") d)
