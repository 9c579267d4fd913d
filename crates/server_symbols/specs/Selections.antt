-- Parts of a text around an offset.
use Rattle.std.specs.Prelude.{◌≡◌, ◌-◌, ◌&&◌, ◌||◌, ◌++◌, ◌∷◌, [], ℕ, List, Bool, true, Option, Some, None, find, length, nat_le, nat_lt, option_to_list, slice_get, take, if◌then◌else◌}
use Rattle.std.specs.Option.{option_or}
use Rattle.server_symbols.specs.Occurrences.{extent_of}
use Rattle.server_symbols.specs.Tokens.{is_closing, is_opening}
use Rattle.server_symbols.specs.declared.outline.Definition.{Definition}
use Rattle.server_symbols.specs.declared.tokens.Extent.{Extent}
use Rattle.server_symbols.specs.declared.tokens.Token.{Token}

-- whether an offset is in an extent, or at its end
abbrev pub is_around : ℕ → Extent → Bool
is_around offset extent = nat_le extent.start offset && nat_le offset extent.end

abbrev pub if_around : ℕ → Extent → Option Extent
if_around offset extent = if is_around offset extent then Some extent else None

abbrev pub kept_around : ℕ → Extent → List Extent
kept_around offset extent = if is_around offset extent then extent ∷ [] else []

-- the bytes of the last token around an offset, or else those that were found
abbrev pub last_around : ℕ → Option Extent → List Token → Option Extent
last_around offset found [] = found
last_around offset found (token ∷ tokens) =
    last_around offset (option_or (if_around offset (extent_of token)) found) tokens

abbrev pub token_around : ℕ → List Token → List Extent
token_around offset tokens = option_to_list (last_around offset None tokens)

-- the starts of the brackets that are open after one more token, the innermost last
abbrev pub open_after : List ℕ → Token → List ℕ
open_after starts token = if is_opening token.class then starts ++ token.start ∷ []
    else (if is_closing token.class then take (length starts - 1) starts else starts)

-- whether an offset is between two others
abbrev pub is_between : ℕ → ℕ → ℕ → Bool
is_between start offset end = nat_lt start offset && nat_le offset end

-- the bytes from an opening bracket up to a closing one, if the offset is between them
abbrev pub pair_around : ℕ → Option ℕ → Token → List Extent
pair_around offset None token = []
pair_around offset (Some start) token = if is_between start offset token.start
    then record { start = start; end = token.end } ∷ [] else []

-- what a token closes, if it is in brackets around the offset
abbrev pub closed_by : ℕ → List ℕ → Token → List Extent
closed_by offset starts token = if is_opening token.class then []
    else (if is_closing token.class then pair_around offset (slice_get starts (length starts - 1)) token
    else [])

-- what is in brackets around an offset, the innermost first, where some are open
abbrev pub brackets_from : ℕ → List ℕ → List Token → List Extent
brackets_from offset starts [] = []
brackets_from offset starts (token ∷ tokens) =
    closed_by offset starts token ++ brackets_from offset (open_after starts token) tokens

-- the innermost 60
abbrev pub brackets_around : ℕ → List Token → List Extent
brackets_around offset tokens = take 60 (brackets_from offset [] tokens)

abbrev pub body_around : ℕ → Option Extent → List Extent
body_around offset None = []
body_around offset (Some body) = kept_around offset body

-- the body and the whole of a definition, those around the offset
abbrev pub parts_of : ℕ → Option Definition → List Extent
parts_of offset None = []
parts_of offset (Some definition) =
    body_around offset definition.body ++ kept_around offset definition.whole

-- the first definition around the offset
abbrev pub definition_at : ℕ → List Definition → Option Definition
definition_at offset definitions = find (λ definition. is_around offset definition.whole) definitions

abbrev pub definition_around : ℕ → List Definition → List Extent
definition_around offset definitions = parts_of offset (definition_at offset definitions)

abbrev pub all_of : List ℕ → Extent
all_of text = record { start = 0; end = length text }

-- the parts of a text around an offset
abbrev pub parts_around : List ℕ → List Token → List Definition → ℕ → List Extent
parts_around text tokens definitions offset = token_around offset tokens
    ++ brackets_around offset tokens ++ definition_around offset definitions ++ all_of text ∷ []

-- whether an extent has another one in it, and is not that one
abbrev pub is_larger : Extent → Extent → Bool
is_larger extent inner = nat_le extent.start inner.start && nat_le inner.end extent.end
    && (nat_lt extent.start inner.start || nat_lt inner.end extent.end)

abbrev pub may_follow : Option Extent → Extent → Bool
may_follow None extent = true
may_follow (Some last) extent = is_larger extent last

-- parts with one more, if that is larger than the last of them
abbrev pub grown : List Extent → Extent → List Extent
grown parts extent = if may_follow (slice_get parts (length parts - 1)) extent
    then parts ++ extent ∷ [] else parts

-- parts with those of others that are larger than all before
abbrev pub grown_by : List Extent → List Extent → List Extent
grown_by parts [] = parts
grown_by parts (extent ∷ extents) = grown_by (grown parts extent) extents

-- each part is larger than the one before
abbrev pub AreNested : List Extent → Type 0
AreNested [] = Unit {0}
AreNested (extent ∷ []) = Unit {0}
AreNested (inner ∷ extent ∷ extents) = (is_larger extent inner ≡ true) × AreNested (extent ∷ extents)

abbrev pub selections : List ℕ → List Token → List Definition → ℕ → List Extent
selections text tokens definitions offset = grown_by [] (parts_around text tokens definitions offset)
