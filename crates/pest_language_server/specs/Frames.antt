-- Frames.
use Rattle.std.specs.Prelude.{◌≡◌, ◌≢◌, ◌<◌, ◌^◌, ◌⊎◌, ◌||◌, ◌++◌, ◌∷◌, [], ℕ, List, Bool, true, false, All, IsUtf8, Option, None, Some, Vec, bytes_eq, codes, decimal, length}
use Rattle.std.specs.declared.alloc.Global.{Global}
use Rattle.std.specs.Io.KnownBytes.{Consumes, IsAtEnd}
use Rattle.std.specs.List.{concat}
use Rattle.std.specs.Str.{trim}
use Rattle.std.specs.Str.Parse.{IsNumeral, digits_value, without_leading_plus}
use Rattle.std.specs.Str.Pattern.{RFindsText, SplitsAroundMatch}
use Rattle.pest_language_server.specs.declared.frames.Head.{Head}
use Rattle.pest_language_server.specs.declared.frames.Head.TheVariants as head
use Rattle.pest_language_server.specs.declared.frames.InputFrame.{InputFrame}
use Rattle.pest_language_server.specs.declared.frames.InputFrame.TheVariants as frame

-- a head that says a length
abbrev pub head_text : ℕ → List ℕ
head_text said = codes "Content-Length: " ++ decimal said ++ codes "\r\n\r\n"

-- a body after a head that says its length
abbrev pub frame_of : List ℕ → List ℕ
frame_of body = head_text (length body) ++ body

-- a line: bytes up to a line feed, or 1024 that are none
abbrev pub IsLine : List ℕ → Type 0
IsLine line = (bytes : List ℕ) × All (λ byte. byte ≢ 10) bytes
    × (((length bytes < 1024) × (line ≡ bytes ++ 10 ∷ [])) ⊎ ((length bytes ≡ 1024) × (line ≡ bytes)))

abbrev pub is_empty_line : List ℕ → Bool
is_empty_line line = bytes_eq line (codes "\r\n") || bytes_eq line (codes "\n")

-- a line says a length: the number after the last `Content-Length:` in it
pub record SaysLength (line : List ℕ) (said : ℕ) : Type 0 where
  pub text : IsUtf8 line
  pub before : List ℕ
  pub after : List ℕ
  pub split : SplitsAroundMatch (RFindsText (codes "Content-Length:")) line before after
  pub numeral : IsNumeral 10 (without_leading_plus (trim after))
  pub fits : digits_value 10 (without_leading_plus (trim after)) < 2 ^ 64
  pub value : said ≡ digits_value 10 (without_leading_plus (trim after))

-- a line says no length
abbrev pub SaysNone : List ℕ → Type 0
SaysNone line = (said : ℕ) → ¬ SaysLength line said

-- the length that the last of some lines says, of those that say one
abbrev pub SaysLast : List (List ℕ) → Option ℕ → Type 0
SaysLast lines None = All SaysNone lines
SaysLast lines (Some said) = (before : List (List ℕ)) × (line : List ℕ) × (after : List (List ℕ))
    × (lines ≡ before ++ line ∷ after) × SaysLength line said × All SaysNone after

-- lines that are not empty
abbrev pub AreLines : List (List ℕ) → Type 0
AreLines lines = All (λ line. IsLine line × (is_empty_line line ≡ false)) lines

-- a head: such lines and an empty one, and the length that they say
pub record IsHead (bytes : List ℕ) (said : Option ℕ) : Type 0 where
  pub lines : List (List ℕ)
  pub end : List ℕ
  pub are_lines : AreLines lines
  pub is_end : is_empty_line end ≡ true
  pub says : SaysLast lines said
  pub whole : bytes ≡ concat lines ++ end

-- more lines than a head may have
pub record IsLong (bytes : List ℕ) : Type 0 where
  pub lines : List (List ℕ)
  pub are_lines : AreLines lines
  pub many : length lines ≡ 64
  pub whole : bytes ≡ concat lines

-- a head that says no length, or one above 64 MB
abbrev pub IsInvalid : List ℕ → Type 0
IsInvalid bytes = IsHead bytes None ⊎ IsLong bytes
    ⊎ ((said : ℕ) × IsHead bytes (Some said) × (67108864 < said))

-- bytes of a line that has not ended
abbrev pub IsPart : List ℕ → Type 0
IsPart bytes = All (λ byte. byte ≢ 10) bytes × (length bytes < 1024)

-- bytes of a head that has not ended
pub record IsCutHead (bytes : List ℕ) : Type 0 where
  pub lines : List (List ℕ)
  pub part : List ℕ
  pub are_lines : AreLines lines
  pub few : length lines < 64
  pub is_part : IsPart part
  pub whole : bytes ≡ concat lines ++ part

-- an input loses all that it has
abbrev pub LosesAll : Option (List ℕ) → Option (List ℕ) → List ℕ → Type 0
LosesAll old new bytes = Consumes old new bytes × IsAtEnd new

-- an input gives a byte; none at its end
abbrev pub IsByteRead : Option (List ℕ) → Option (List ℕ) → Option ℕ → Type 0
IsByteRead old new None = LosesAll old new []
IsByteRead old new (Some byte) = Consumes old new (byte ∷ [])

-- an input gives a line; none if the input ends first
abbrev pub IsLineRead : Option (List ℕ) → Option (List ℕ) → Option (Vec ℕ Global) → Type 0
IsLineRead old new None = (part : List ℕ) × IsPart part × LosesAll old new part
IsLineRead old new (Some line) = IsLine line.items × Consumes old new line.items

abbrev pub head_of : Option ℕ → Head
head_of (Some said) = head.Length said
head_of None = head.Invalid

-- an input gives a head, unless the input ends first
abbrev pub IsHeadRead : Option (List ℕ) → Option (List ℕ) → Head → Type 0
IsHeadRead old new (head.Length said) = (bytes : List ℕ) × IsHead bytes (Some said) × Consumes old new bytes
IsHeadRead old new head.Invalid = (bytes : List ℕ) × IsInvalid bytes × Consumes old new bytes
IsHeadRead old new head.End = (bytes : List ℕ) × IsCutHead bytes × LosesAll old new bytes

-- a given number of bytes are read of an input, unless the input ends first
abbrev pub IsRestRead : Option (List ℕ) → Option (List ℕ) → ℕ → Bool → Type 0
IsRestRead old new count true = (bytes : List ℕ) × (length bytes ≡ count) × Consumes old new bytes
IsRestRead old new count false = (bytes : List ℕ) × (length bytes < count) × LosesAll old new bytes

-- an input gives the rest of a body, unless the input ends first
abbrev pub IsSkipped : Option (List ℕ) → Option (List ℕ) → ℕ → InputFrame → Type 0
IsSkipped old new rest (frame.Body body) = ⊥
IsSkipped old new rest frame.Invalid = ⊥
IsSkipped old new rest frame.TooLarge = IsRestRead old new rest true
IsSkipped old new rest frame.End = IsRestRead old new rest false

-- an input gives a body of this length, unless the input ends first
abbrev pub IsBodyRead : Option (List ℕ) → Option (List ℕ) → ℕ → InputFrame → Type 0
IsBodyRead old new said (frame.Body body) = (length body.items ≡ said) × Consumes old new body.items
IsBodyRead old new said frame.Invalid = ⊥
IsBodyRead old new said frame.TooLarge = IsRestRead old new said true
IsBodyRead old new said frame.End = IsRestRead old new said false

-- an input loses a head and a body of the length that the head says
abbrev pub LosesFrame : Option (List ℕ) → Option (List ℕ) → List ℕ → Type 0
LosesFrame old new body =
    (bytes : List ℕ) × IsHead bytes (Some (length body)) × Consumes old new (bytes ++ body)

-- bytes of a frame that has not ended
abbrev pub IsCutFrame : List ℕ → Type 0
IsCutFrame bytes = IsCutHead bytes ⊎ ((front : List ℕ) × (part : List ℕ) × (said : ℕ)
    × IsHead front (Some said) × (length part < said) × (bytes ≡ front ++ part))

-- an input gives a frame, unless the input ends first
abbrev pub IsFrameRead : Option (List ℕ) → Option (List ℕ) → InputFrame → Type 0
IsFrameRead old new (frame.Body body) = LosesFrame old new body.items
IsFrameRead old new frame.Invalid = (bytes : List ℕ) × IsInvalid bytes × Consumes old new bytes
IsFrameRead old new frame.TooLarge = (body : List ℕ) × LosesFrame old new body
IsFrameRead old new frame.End = (bytes : List ℕ) × IsCutFrame bytes × LosesAll old new bytes
