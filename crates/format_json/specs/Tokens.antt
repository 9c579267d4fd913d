-- Tokens as JSON values.
use Rattle.std.specs.Prelude.{List, [], ◌∷◌, map}
use Rattle.serde_json.specs.Data.{Data, string}
use Rattle.base_language.specs.Pieces.MetaRules.{name_of}
use Rattle.format_json.specs.Errors.{list_data, size_data}
use Rattle.front_syntax.specs.declared.events.TokenEvent.{TokenEvent}
use Rattle.front_syntax.specs.declared.events.TokenEvent.TheVariants as event

-- a token: the rule and the start of a tree, or its end, and the number of the other one
abbrev pub event_data : TokenEvent → Data
event_data (event.Start rule place partner) =
    list_data (string (name_of rule) ∷ size_data place ∷ size_data partner ∷ [])
event_data (event.End place partner) = list_data (size_data place ∷ size_data partner ∷ [])

-- a list of tokens
abbrev pub tokens_data : List TokenEvent → Data
tokens_data events = list_data (map event_data events)
