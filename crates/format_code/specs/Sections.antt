-- Sections of bytes.
use Rattle.std.specs.Prelude.{ℕ, ◌+◌, List, [], ◌∷◌, get_or, length}
use Rattle.matcher_code.specs.Words.{parts_in, words_in}

-- bytes that begin with the places of their sections, as words, have a section from each place to the next
abbrev pub section : List ℕ → ℕ → List ℕ
section bytes k = get_or (parts_in (words_in bytes) bytes) k []

-- the places where lists end that stand one after another from a place on
abbrev pub ends_from : {A : Type 0} → ℕ → List (List A) → List ℕ
ends_from from [] = []
ends_from from (xs ∷ xss) = (from + length xs) ∷ ends_from (from + length xs) xss
