-- Where names occur.
use Rattle.std.specs.Prelude.{ℕ, List, [], ◌∷◌, Bool, true, false, ◌&&◌, bytes_eq, flat_map, if◌then◌else◌}
use Rattle.server_symbols.specs.Parts.{part}
use Rattle.server_symbols.specs.declared.outline.Definition.{Definition}
use Rattle.server_symbols.specs.declared.tokens.Extent.{Extent}
use Rattle.server_symbols.specs.declared.tokens.Token.{Token}
use Rattle.server_symbols.specs.declared.tokens.TokenClass.{TokenClass}
use Rattle.server_symbols.specs.declared.tokens.TokenClass.TheVariants as class

-- the bytes of a token
abbrev pub extent_of : Token → Extent
extent_of token = record { start = token.start; end = token.end }

abbrev pub is_name : TokenClass → Bool
is_name class.Name = true
is_name _ = false

-- whether a token is this name
abbrev pub is_occurrence : List ℕ → List ℕ → Token → Bool
is_occurrence text name token = is_name token.class && bytes_eq (part text (extent_of token)) name

-- the bytes of a token, if it is this name
abbrev pub occurrence_at : List ℕ → List ℕ → Token → List Extent
occurrence_at text name token = if is_occurrence text name token then extent_of token ∷ [] else []

-- where a name occurs among tokens
abbrev pub occurrences : List ℕ → List ℕ → List Token → List Extent
occurrences text name tokens = flat_map (occurrence_at text name) tokens

-- an extent, if its bytes are this name
abbrev pub extent_named : List ℕ → List ℕ → Extent → List Extent
extent_named text name extent = if bytes_eq (part text extent) name then extent ∷ [] else []

-- the names of the definitions that have this name
abbrev pub names_of : List ℕ → List ℕ → List Definition → List Extent
names_of text name definitions = flat_map (λ d. extent_named text name d.name) definitions
