-- Pieces of a text, and the positions of trees in it.
use Rattle.std.specs.Prelude.{ℕ, ◌≤◌, List}
use Rattle.std.specs.Str.{IsCharBoundary}
use Rattle.base_language.specs.Language.State.{Trees, None', Tree}

-- the text has a piece from i to j: both are on characters, and in order
pub record IsPiece (text : List ℕ) (i j : ℕ) : Type 0 where
  pub starts : IsCharBoundary text i
  pub ends : IsCharBoundary text j
  pub order : i ≤ j

-- the trees are between i and j: in order, apart, on characters, and every tree encloses those in it
abbrev pub NestedInBytes : List ℕ → Trees → ℕ → ℕ → Type 0
NestedInBytes text None' i j = i ≤ j
NestedInBytes text (Tree r a b inner others) i j =
    (i ≤ a) × IsCharBoundary text a × IsCharBoundary text b
    × NestedInBytes text inner a b × NestedInBytes text others b j

-- the trees are somewhere in the text
pub record AreInText (text : List ℕ) (us : Trees) : Type 0 where
  pub from : ℕ
  pub to : ℕ
  pub nested : NestedInBytes text us from to

-- the trees are after a position in the text
pub record AreAfter (text : List ℕ) (from : ℕ) (us : Trees) : Type 0 where
  pub to : ℕ
  pub nested : NestedInBytes text us from to
