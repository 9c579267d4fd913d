-- The text that a literal denotes, by the text between its quotes.
use Rattle.std.specs.Prelude.{ℕ, ◌+◌, ◌*◌, [], ◌∷◌, ◌==◌, if◌then◌else◌, nat_lt}
use Rattle.std.specs.Char.{digit_value}
use Rattle.base_language.specs.Language.Text.{Text}

-- the character that one after a backslash denotes: `r`, `n`, `t` and `0` are controls, any other is
-- itself
abbrev pub letter : ℕ → ℕ
letter c =
    if c == 114 then 13
    else (if c == 110 then 10
    else (if c == 116 then 9
    else (if c == 48 then 0 else c)))

-- the value of a hexadecimal digit
abbrev pub hex_digit_value : ℕ → ℕ
hex_digit_value c = if nat_lt (digit_value c) 16 then digit_value c else 0

-- a number with one more hexadecimal digit
abbrev pub extended : ℕ → ℕ → ℕ
extended n c = 16 * n + hex_digit_value c

-- the characters of a text with escapes, by number; a number that a text in braces names may be no character
abbrev mutual
  pub unescaped : Text → Text
  unescaped [] = []
  unescaped (c ∷ t) = if c == 92 then escape t else c ∷ unescaped t

  -- after a backslash
  pub escape : Text → Text
  escape [] = []
  escape (c ∷ t) = if c == 120 then two_digits t else (if c == 117 then braced t else letter c ∷ unescaped t)

  -- after `x`: two digits
  pub two_digits : Text → Text
  two_digits [] = []
  two_digits (c ∷ t) = second_digit (extended 0 c) t

  pub second_digit : ℕ → Text → Text
  second_digit n [] = []
  second_digit n (c ∷ t) = extended n c ∷ unescaped t

  -- after `u`: a brace, and digits up to the other
  pub braced : Text → Text
  braced [] = []
  braced (c ∷ t) = digits 0 t

  pub digits : ℕ → Text → Text
  digits n [] = []
  digits n (c ∷ t) = if c == 125 then n ∷ unescaped t else digits (extended n c) t
