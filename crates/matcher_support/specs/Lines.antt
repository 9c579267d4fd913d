-- Token trees as flat lines.
use Rattle.std.specs.Prelude.{ℕ, ◌+◌, List, [], ◌∷◌, ◌++◌, codes, decimal, encode_utf8_all}
use Rattle.base_language.specs.Language.Text.{Text}
use Rattle.base_language.specs.Language.State.{Trees, None', Tree}
use Rattle.matcher_engine.specs.Walks.{Enters, Leaves, Visit}

-- the positions of a tree and its depth
abbrev pub numbers : ℕ → ℕ → ℕ → List ℕ
numbers i j depth = decimal i ++ codes " " ++ decimal j ++ codes " " ++ decimal depth ++ codes " "

abbrev pub line : ℕ → ℕ → ℕ → Text → List ℕ
line i j depth r = numbers i j depth ++ encode_utf8_all r ++ codes "\n"

-- the line of each tree before those of its children
abbrev pub lines_of : ℕ → Trees → List ℕ
lines_of depth None' = []
lines_of depth (Tree r i j inner others) =
    line i j depth r ++ lines_of (depth + 1) inner ++ lines_of depth others

-- the part that a visit adds, and those of the visits of a walk
abbrev pub piece : Visit → List ℕ
piece (Enters t) = line t.node.start t.node.end t.depth t.rule
piece (Leaves t) = []

abbrev pub flat : List Visit → List ℕ
flat [] = []
flat (v ∷ vs) = piece v ++ flat vs
