-- Trees of a match that agree with expected ones.
use Rattle.std.specs.Prelude.{◌≡◌, ℕ, List, [], ◌∷◌, ◌++◌, Option, Some, None, String, codes, string_bytes, ⊤}
use Rattle.std.specs.Str.{chars}
use Rattle.std.specs.declared.alloc.Global.{Global}
use Rattle.base_language.specs.Language.State.{Trees, None', Tree}
use Rattle.base_language.specs.Language.Text.{Text}
use Rattle.matcher_support.specs.Shown.{part}
use Rattle.pest_test.specs.declared.expected.Event.{Event}
use Rattle.pest_test.specs.declared.expected.Event.TheVariants.{Enter, Leave}

-- a wanted text is the part of the text between two positions; if none is wanted, any text will do
abbrev pub IsWantedPart : List ℕ → ℕ → ℕ → Option (String Global) → Type 0
IsWantedPart text i j None = ⊤
IsWantedPart text i j (Some wanted) = string_bytes wanted ≡ part text i j

-- the event enters a tree of this rule, which matched the text between two positions
abbrev pub IsEntered : List ℕ → Text → ℕ → ℕ → Event → Type 0
IsEntered text r i j (Enter rule wanted) = (chars rule.now ≡ r) × IsWantedPart text i j wanted
IsEntered text r i j Leave = ⊥

-- The events are those of the trees of a match on the text: into each tree, its inner trees, and out of it.
-- A tree of `EOI` may be left out.
pub data Agree (text : List ℕ) : List Event → Trees → Type 0 where
  none : Agree text [] None'
  tree : {inside rest : List Event} {r : Text} {i j : ℕ} {inner others : Trees} (event : Event)
      → IsEntered text r i j event → Agree text inside inner → Agree text rest others
      → Agree text (event ∷ inside ++ Leave ∷ rest) (Tree r i j inner others)
  left_out : {events : List Event} {others : Trees} (i j : ℕ) → Agree text events others
      → Agree text events (Tree (codes "EOI") i j None' others)
