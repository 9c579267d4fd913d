-- Entries of tagged trees.
use Rattle.std.specs.Prelude.{ℕ, List, [], ◌∷◌, Option, Some, None, chars, map, reverse}
use Rattle.std.specs.Borrow.{Bor}
use Rattle.base_language.specs.Language.Text.{Text}
use Rattle.base_language.specs.Pieces.TokenTrees.{NoTokens, Token}
use Rattle.matcher_engine.specs.Walks.{Enters, Leaves, Visit}
use Rattle.matcher_support.specs.Names.{tag_in}
use Rattle.matcher_support.specs.Tags.{TaggedTrees}
use Rattle.matcher_support.specs.declared.tags.entries.TaggedEntry as code
use Rattle.matcher_support.specs.declared.tags.entries.TaggedEntry.TheVariants as is

-- the start of a tree; its end, with its tag
pub data TagEntry : Type 0 where
  Opens : Text → ℕ → TagEntry
  Closes : ℕ → Option Text → TagEntry

abbrev pub text_in : Option (Bor (List ℕ)) → Option Text
text_in None = None
text_in (Some t) = Some (chars t.now)

abbrev pub tag_entry_of : code.TaggedEntry → TagEntry
tag_entry_of (is.Start r i) = Opens (chars r.now) i
tag_entry_of (is.End j t) = Closes j (text_in t)

-- entries of the code, the last first
abbrev pub last_first : List code.TaggedEntry → List TagEntry
last_first es = reverse (map tag_entry_of es)

-- the entries of trees, the last first, before others
abbrev pub entries_onto : TaggedTrees → List TagEntry → List TagEntry
entries_onto NoTokens es = es
entries_onto (Token r i j inner others) es =
    entries_onto others (Closes j r.1 ∷ entries_onto inner (Opens r.0 i ∷ es))

-- the entries so far, the last first, and a wrapper's tag or none for each open tree, the innermost first
pub record Tagging : Type 0 where
  pub entries : List TagEntry
  pub open_trees : List (Option Text)

abbrev pub tagging_of : List code.TaggedEntry → List (Option (Bor (List ℕ))) → Tagging
tagging_of es open_trees = record { entries = last_first es; open_trees = reverse (map text_in open_trees) }

-- the last entry gets a tag, if it is an end
abbrev pub with_last_tag : Text → List TagEntry → List TagEntry
with_last_tag t [] = []
with_last_tag t (Opens n i ∷ es) = Opens n i ∷ es
with_last_tag t (Closes j u ∷ es) = Closes j (Some t) ∷ es

-- a tree starts: a wrapper, or another
abbrev pub with_start : Option Text → Text → ℕ → Tagging → Tagging
with_start (Some t) n i k = record k { open_trees = Some t ∷ k.open_trees }
with_start None n i k = record { entries = Opens n i ∷ k.entries; open_trees = None ∷ k.open_trees }

-- the innermost open tree ends
abbrev pub with_end : ℕ → List TagEntry → List (Option Text) → Tagging
with_end j es [] = record { entries = Closes j None ∷ es; open_trees = [] }
with_end j es (None ∷ open_trees) = record { entries = Closes j None ∷ es; open_trees = open_trees }
with_end j es (Some t ∷ open_trees) = record { entries = with_last_tag t es; open_trees = open_trees }

abbrev pub with_visit : Visit → Tagging → Tagging
with_visit (Enters t) k = with_start (tag_in t.rule) t.rule t.node.start k
with_visit (Leaves t) k = with_end t.node.end k.entries k.open_trees

abbrev pub with_visits : List Visit → Tagging → Tagging
with_visits [] k = k
with_visits (v ∷ vs) k = with_visits vs (with_visit v k)
