-- Tokens, and the names that they define.
use Rattle.std.specs.Prelude.{ℕ, List, [], ◌∷◌, ◌++◌, ◌==◌, ◌&&◌, ◌||◌, Bool, true, false, if◌then◌else◌}
use Rattle.server_symbols.specs.Occurrences.{extent_of, is_name}
use Rattle.server_symbols.specs.declared.outline.Definition.{Definition}
use Rattle.server_symbols.specs.declared.tokens.Extent.{Extent}
use Rattle.server_symbols.specs.declared.tokens.Token.{Token}
use Rattle.server_symbols.specs.declared.tokens.TokenClass.{TokenClass}
use Rattle.server_symbols.specs.declared.tokens.TokenClass.TheVariants as class

-- whether a class is that of an ASCII character
abbrev pub is_sign : ℕ → TokenClass → Bool
is_sign sign (class.Sign byte) = byte == sign
is_sign sign _ = false

abbrev pub is_opening : TokenClass → Bool
is_opening class = is_sign 40 class || is_sign 123 class || is_sign 91 class

abbrev pub is_closing : TokenClass → Bool
is_closing class = is_sign 41 class || is_sign 125 class || is_sign 93 class

abbrev pub is_comment : TokenClass → Bool
is_comment class.Comment = true
is_comment class.Doc = true
is_comment class.GrammarDoc = true
is_comment _ = false

-- whether the first token that is no comment is a `=`
abbrev pub is_equals_next : List Token → Bool
is_equals_next [] = false
is_equals_next (token ∷ tokens) =
    if is_comment token.class then is_equals_next tokens else is_sign 61 token.class

-- the bytes of a token, if it is a name before a `=`
abbrev pub defined_at : Token → List Token → List Extent
defined_at token after =
    if is_name token.class && is_equals_next after then extent_of token ∷ [] else []

-- the names that are defined: those before a `=`
abbrev pub defined_names : List Token → List Extent
defined_names [] = []
defined_names (token ∷ tokens) = defined_at token tokens ++ defined_names tokens

abbrev pub name_of : Definition → Extent
name_of definition = definition.name
