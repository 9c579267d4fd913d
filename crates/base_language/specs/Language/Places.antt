-- Positions of trees in their text.
use Rattle.std.specs.Prelude.{◌≡◌, ℕ, ◌≤◌, ◌++◌, ⊤}
use Rattle.base_language.specs.Language.Text.{Text, IsPosition, size_of}
use Rattle.base_language.specs.Language.State.{State, Trees, None', Tree, Outcome, Success, Failure}

-- the remaining input is the suffix from the position on
pub record IsStateIn (text : Text) (s : State) : Type 0 where
  pub front : Text
  pub split : text ≡ front ++ s.rest
  pub size : s.position ≡ size_of front

-- trees from i to j: in order and apart, on characters of the text, and each around the trees that it holds
abbrev pub Nested : Text → Trees → ℕ → ℕ → Type 0
Nested text None' i j = i ≤ j
Nested text (Tree r a b inner others) i j =
    (i ≤ a) × IsPosition text a × IsPosition text b × Nested text inner a b × Nested text others b j

-- a success is within the text, and so are its trees, between its start and its end
abbrev pub FitsIn : Text → State → Outcome → Type 0
FitsIn text s Failure = ⊤
FitsIn text s (Success t us) = IsStateIn text t × Nested text us s.position t.position
