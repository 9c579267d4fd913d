-- The name around a byte.
use Rattle.std.specs.Prelude.{ℕ, List, Bool, ◌&&◌, nat_le, find, Option, option_map}
use Rattle.server_symbols.specs.Occurrences.{extent_of, is_name}
use Rattle.server_symbols.specs.declared.tokens.Extent.{Extent}
use Rattle.server_symbols.specs.declared.tokens.Token.{Token}

-- whether a token is a name that a byte is in, or at the end of
abbrev pub is_name_around : ℕ → Token → Bool
is_name_around k token = is_name token.class && nat_le token.start k && nat_le k token.end

-- the first name that a byte is in, or at the end of
abbrev pub name_around : ℕ → List Token → Option Extent
name_around k tokens = option_map extent_of (find (is_name_around k) tokens)
