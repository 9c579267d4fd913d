-- Names that a rule can be given.
use Rattle.std.specs.Prelude.{◌≡◌, ◌==◌, ◌&&◌, ◌||◌, ℕ, List, [], ◌∷◌, Bool, true, false}
use Rattle.std.specs.Char.{is_ascii_alphabetic, is_ascii_alphanumeric}
use Rattle.std.specs.List.{list_all}
use Rattle.base_language.specs.Language.Builtins.{is_one_of}
use Rattle.base_language.specs.Language.Grammar.{keywords}
use Rattle.front_names.specs.Names.{is_builtin, rust_keywords}

abbrev pub is_first : ℕ → Bool
is_first byte = is_ascii_alphabetic byte || byte == 95

abbrev pub is_other : ℕ → Bool
is_other byte = is_ascii_alphanumeric byte || byte == 95

-- whether bytes are letters, digits and `_`, no digit first
abbrev pub is_identifier : List ℕ → Bool
is_identifier [] = false
is_identifier (byte ∷ bytes) = is_first byte && list_all is_other bytes

-- whether pest or Rust reserves a name
abbrev pub is_keyword : List ℕ → Bool
is_keyword name = is_one_of keywords name || is_one_of rust_keywords name

-- a rule can have a name
pub record IsNewName (name : List ℕ) : Type 0 where
  pub identifier : is_identifier name ≡ true
  pub no_builtin : is_builtin name ≡ false
  pub no_keyword : is_keyword name ≡ false
