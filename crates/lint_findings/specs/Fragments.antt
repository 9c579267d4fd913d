-- Parts of a text, with the bytes at which they begin.
use Rattle.std.specs.Prelude.{ℕ, ◌+◌, ◌-◌, ◌==◌, List, [], ◌∷◌, length, map, slice_range}
use Rattle.std.specs.List.{slice_split}
use Rattle.std.specs.Str.{trim, trim_start}
use Rattle.lint_findings.specs.declared.fragments.Fragment as code

pub record Fragment : Type 0 where
  pub start : ℕ
  pub text : List ℕ

abbrev pub fragment_of : code.Fragment → Fragment
fragment_of f = record { start = f.start; text = f.text.now }

-- a whole text
abbrev pub whole : List ℕ → Fragment
whole text = record { start = 0; text = text }

-- the part of a text from a byte up to another
abbrev pub between : List ℕ → ℕ → ℕ → Fragment
between text from to = record { start = from; text = slice_range text from to }

-- a fragment without the white space around it
abbrev pub trimmed : Fragment → Fragment
trimmed f = record { start = f.start + (length f.text - length (trim_start f.text)); text = trim f.text }

-- texts that begin at a byte, each one byte behind the one before it
abbrev pub placed_from : ℕ → List (List ℕ) → List Fragment
placed_from start [] = []
placed_from start (t ∷ ts) = record { start = start; text = t } ∷ placed_from (start + length t + 1) ts

-- the parts of a fragment between bytes `c`, without the white space around them
abbrev pub parts_at : ℕ → Fragment → List Fragment
parts_at c f = map trimmed (placed_from f.start (slice_split (λ b. b == c) f.text))
