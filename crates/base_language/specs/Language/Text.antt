-- Texts, positions and spans.
use Rattle.std.specs.Prelude.{◌≡◌, ℕ, ◌<◌, List, ◌++◌, ◌⊎◌, All}
use Rattle.std.specs.List.{sum_by}
use Rattle.std.specs.Char.{len_utf8}

-- the code points of the characters of a text
abbrev pub Text : Type 0
Text = List ℕ

-- a Unicode scalar value: a code point that is no surrogate
abbrev pub IsScalarValue : ℕ → Type 0
IsScalarValue c = (c < 55296) ⊎ ((57343 < c) × (c < 1114112))

abbrev pub IsText : Text → Type 0
IsText t = All IsScalarValue t

-- how many bytes a text takes in UTF-8
abbrev pub size_of : Text → ℕ
size_of t = sum_by len_utf8 t

-- a position counts the bytes before it, and is between two characters
pub record IsPosition (text : Text) (position : ℕ) : Type 0 where
  pub front : Text
  pub back : Text
  pub split : text ≡ front ++ back
  pub size : position ≡ size_of front
