-- Comments within comments, by the text that opens one and the text that closes one.
use Rattle.std.specs.Prelude.{ℕ, zero, suc, ◌-◌, List, [], ◌∷◌, Bool, ◌&&◌, nat_eq, nat_lt, drop, length, if◌then◌else◌}
use Rattle.base_language.specs.Language.Matching.{begins}

-- all but the first; in place of none, others
abbrev pub others_or : List (List ℕ) → List (List ℕ) → List (List ℕ)
others_or [] ts = ts
others_or (r ∷ rs) ts = rs

-- how many are taken, down to the first of some rests; 0 if there is none
abbrev pub taken_to : List ℕ → List (List ℕ) → ℕ
taken_to cs [] = 0
taken_to cs (r ∷ rs) = length cs - length r

module _ (opening closing : List ℕ) where
  -- the rests of the text after those texts that close the comments around a place, the innermost comment
  -- first; a comment that begins there is passed over if it is closed, and else it is a part of the text
  -- around it. The place is a given number of bytes, or characters, from here on
  abbrev pub closings : ℕ → List ℕ → List (List ℕ)
  closings k [] = []
  closings (suc k) (c ∷ cs) = closings k cs
  closings zero (c ∷ cs) =
      let here = c ∷ cs in
      others_or (if begins nat_eq opening here then closings (length opening - 1) cs else [])
      (if begins nat_eq closing here then drop (length closing) here ∷ closings (length closing - 1) cs
      else closings 0 cs)

  -- the length of a comment that begins here; 0 if there is none, or it is left open
  abbrev pub comment_len : List ℕ → ℕ
  comment_len cs = if begins nat_eq opening cs then taken_to cs (closings (length opening) cs) else 0

-- whether a text of a given number of bytes, from 1 to 255, may open or close comments
abbrev pub can_delimit : List ℕ → Bool
can_delimit t = nat_lt 0 (length t) && nat_lt (length t) 256
