-- Names, and the numbers of rules.
use Rattle.std.specs.Prelude.{◌≡◌, ℕ, List, map, Option, encode_utf8_all}
use Rattle.std.specs.HashMap.{get_by_text}
use Rattle.std.specs.declared.alloc.Global.{Global}
use Rattle.std.specs.declared.string.String.{String}
use Rattle.base_language.specs.Language.Text.{Text}
use Rattle.base_language.specs.Language.Expression.{Grammar, last_place}
use Rattle.base_ast.specs.Ast.{text_of}
use Rattle.front_restorer.specs.declared.names.Names.{Names}

-- the number that is known for a name
abbrev pub number_of : Names → Text → Option ℕ
number_of names n = get_by_text names.numbers (encode_utf8_all n)

-- the numbers of the rules that some names mean
abbrev pub Numbers : Type 0
Numbers = List (Option ℕ)

abbrev pub numbers_of : Names → List Text → Numbers
numbers_of names ns = map (number_of names) ns

-- the number of every name is the index of the last rule of that name
abbrev pub KnowsNames : Names → Grammar → Type 0
KnowsNames names g = (n : String Global) → number_of names (text_of n) ≡ last_place g (text_of n)
