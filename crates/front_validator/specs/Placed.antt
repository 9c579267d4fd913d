-- Rules whose spans are all of one text.
use Rattle.std.specs.Prelude.{◌≡◌, ℕ, List}
use Rattle.std.specs.List.{All}
use Rattle.front_spanned.specs.Spanned.{Span, Spanned, Leaf, One, Two, SpannedRule}

-- the spans of a node and of all nodes inside it are of this text
abbrev pub IsIn : List ℕ → Spanned → Type 0
IsIn text (Leaf s e) = s.text ≡ text
IsIn text (One s f x) = (s.text ≡ text) × IsIn text x
IsIn text (Two s f x y) = (s.text ≡ text) × IsIn text x × IsIn text y

-- the spans of the nodes of all bodies are of this text
abbrev pub AreIn : List ℕ → List SpannedRule → Type 0
AreIn text rules = All (λ r. IsIn text r.body) rules

-- these pieces are of this text
abbrev pub ArePiecesOf : List ℕ → List Span → Type 0
ArePiecesOf text places = All (λ s. s.text ≡ text) places
