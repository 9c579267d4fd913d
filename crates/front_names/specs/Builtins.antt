-- The builtins of code: their names, and what these mean in the language.
use Rattle.std.specs.Prelude.{List, [], ◌∷◌, Option, Some, None, Bool, true, false, ◌&&◌, nat_lt, if◌then◌else◌, map, codes}
use Rattle.base_language.specs.Language.Text.{Text}
use Rattle.base_language.specs.Language.Builtins as language
use Rattle.base_language.specs.Language.Builtins.{Named, builtins, is_one_of, property_names}
use Rattle.front_names.specs.CharSets.{has_character, set_name}
use Rattle.front_names.specs.declared.builtin.Builtin.{Builtin}
use Rattle.front_names.specs.declared.builtin.Builtin.TheVariants as is

abbrev pub name_of : Builtin → Text
name_of (is.Set s) = set_name s
name_of is.Soi = codes "SOI"
name_of is.Eoi = codes "EOI"
name_of is.Newline = codes "NEWLINE"
name_of is.Peek = codes "PEEK"
name_of is.Pop = codes "POP"
name_of is.Drop = codes "DROP"
name_of is.PeekAll = codes "PEEK_ALL"
name_of is.PopAll = codes "POP_ALL"

abbrev pub meaning_of : Builtin → language.Builtin
meaning_of (is.Set s) = language.One (has_character s)
meaning_of is.Soi = language.Soi
meaning_of is.Eoi = language.Eoi
meaning_of is.Newline = language.Newline
meaning_of is.Peek = language.Peek
meaning_of is.Pop = language.Pop
meaning_of is.Drop = language.Drop
meaning_of is.PeekAll = language.PeekAll
meaning_of is.PopAll = language.PopAll

-- the entry of the language's list
abbrev pub entry_of : Builtin → Named
entry_of b = record { name = name_of b; builtin = meaning_of b }

-- the names of the language's list
abbrev pub builtin_names : List Text
builtin_names = map (λ b. b.name) builtins

-- the property of a name, if there is one
abbrev pub property_of : Text → Option language.Builtin
property_of n = if is_one_of property_names n then Some (language.Property n) else None

-- counts as taking no character
abbrev pub is_nullable : language.Builtin → Bool
is_nullable (language.One f) = false
is_nullable (language.Property n) = false
is_nullable language.Newline = false
is_nullable language.Soi = true
is_nullable language.Eoi = true
is_nullable language.Peek = false
is_nullable language.Pop = false
is_nullable language.Drop = false
is_nullable language.PeekAll = false
is_nullable language.PopAll = false

-- removes entries of the stack
abbrev pub changes_stack : language.Builtin → Bool
changes_stack (language.One f) = false
changes_stack (language.Property n) = false
changes_stack language.Newline = false
changes_stack language.Soi = false
changes_stack language.Eoi = false
changes_stack language.Peek = false
changes_stack language.Pop = true
changes_stack language.Drop = true
changes_stack language.PeekAll = false
changes_stack language.PopAll = true

-- a text begins with a capital letter of ASCII
abbrev pub begins_with_capital : Text → Bool
begins_with_capital [] = false
begins_with_capital (c ∷ t) = nat_lt 64 c && nat_lt c 91
