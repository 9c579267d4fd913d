-- The map from names to the indices of rules.
use Rattle.std.specs.Prelude.{◌≡◌, ℕ, List}
use Rattle.std.specs.HashMap.{get_by_text}
use Rattle.std.specs.Str.{IsUtf8, chars}
use Rattle.base_language.specs.Language.Expression.{last_place}
use Rattle.front_spanned.specs.declared.node.ParserRule.{ParserRule}
use Rattle.front_analysis.specs.Names.{grammar_of}
use Rattle.front_analysis.specs.declared.names.Names.{Names}

-- the map has the index of the last rule of every name
abbrev pub KnowsRules : List ParserRule → Names → Type 0
KnowsRules rules names = (name : List ℕ) → IsUtf8 name
    → get_by_text names.places name ≡ last_place (grammar_of rules) (chars name)
