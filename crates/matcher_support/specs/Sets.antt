-- The sets of property names.
use Rattle.std.specs.Prelude.{ℕ, Bool, false, ◌&&◌, Option, Some, None, is_some}
use Rattle.base_language.specs.Language.Builtins.{is_one_of, property_names}
use Rattle.base_language.specs.Language.Text.{Text}
use Rattle.ucd_sets.specs.Lookup.{by_name}
use Rattle.ucd_sets.specs.Loose.{normalize}
use Rattle.ucd_sets.specs.Sets.{in_set}
use Rattle.ucd_sets.specs.declared.set.Set.{Set}

-- the character is in the set, if there is one
abbrev pub is_in : Option Set → ℕ → Bool
is_in None c = false
is_in (Some set) c = in_set set c

-- the character is in the set that the tables of Unicode have for the name, whatever the case of its letters
-- and with no low lines
abbrev pub is_in_property : Text → ℕ → Bool
is_in_property name c = is_in (by_name (normalize name)) c

-- the name is one of the 115, and the tables have a set for it
abbrev pub has_set : Text → Bool
has_set name = is_one_of property_names name && is_some (by_name (normalize name))
