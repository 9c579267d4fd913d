-- Token trees: which rules matched which parts of a text, inside one another and one after another.
use Rattle.std.specs.Prelude.{ℕ, ◌≤◌, List, [], ◌∷◌, ◌++◌}
use Rattle.std.specs.Str.{IsCharBoundary}
use Rattle.std.specs.Coded.{×_prop, →_prop, le_prop}

-- the first tree's rule, where it starts and ends in bytes, the trees inside it, and the trees after it
pub data TokenTrees (R : Type 0) : Type 0 where
  NoTokens : TokenTrees R
  Token : (rule : R) (start end_ : ℕ) (inner others : TokenTrees R) → TokenTrees R

-- the first trees, and then the second
abbrev pub followed_by : {R : Type 0} → TokenTrees R → TokenTrees R → TokenTrees R
followed_by NoTokens second = second
followed_by (Token rule start end_ inner others) second =
    Token rule start end_ inner (followed_by others second)

-- trees in preorder: an outer one before those inside it, and those before the ones after it
abbrev pub preorder : {R : Type 0} → TokenTrees R → List (TokenTrees R)
preorder NoTokens = []
preorder (Token rule start end_ inner others) = Token rule start end_ inner NoTokens
    ∷ (preorder inner ++ preorder others)

-- a tree starts after a byte of a text, and starts and ends between two characters
abbrev pub StartsAfter : List ℕ → ℕ → ℕ → ℕ → Type 0
StartsAfter text from start end_ = (from ≤ start) × (IsCharBoundary text start × IsCharBoundary text end_)

-- the trees are between two bytes of a text: in order and disjoint, on character boundaries, and around the
-- trees inside them
abbrev pub AreNested : {R : Type 0} → List ℕ → TokenTrees R → ℕ → ℕ → Type 0
AreNested text NoTokens from to = from ≤ to
AreNested text (Token rule start end_ inner others) from to =
    StartsAfter text from start end_ × (AreNested text inner start end_ × AreNested text others end_ to)

-- there is one proof of it at most
IsCharBoundary-prop : (text : List ℕ) (place : ℕ) → IsProp (IsCharBoundary text place)
IsCharBoundary-prop text place = ×_prop le_prop (→_prop (→_prop le_prop))

pub AreNested-prop : {R : Type 0} (text : List ℕ) (trees : TokenTrees R) (from to : ℕ)
    → IsProp (AreNested text trees from to)
AreNested-prop text NoTokens from to = le_prop
AreNested-prop text (Token rule start end_ inner others) from to =
    ×_prop (×_prop le_prop (×_prop (IsCharBoundary-prop text start) (IsCharBoundary-prop text end_)))
    (×_prop (AreNested-prop text inner start end_) (AreNested-prop text others end_ to))
