-- Token trees as data of JSON.
use Rattle.std.specs.Prelude.{ℕ, List, codes, encode_utf8_all}
use Rattle.base_language.specs.Language.Text.{Text}
use Rattle.base_language.specs.Language.State.{Trees, None', Tree}
use Rattle.matcher_support.specs.Shown.{part}
use Rattle.serde_json.specs.Data.{Data, number, unsigned, string, array, object, Items, no_items, item, member, no_members}

-- a tree that holds no other, and a tree that holds others
abbrev pub leaf_data : List ℕ → ℕ → ℕ → List ℕ → Data
leaf_data rule i j part_of_text = object
    (member (codes "end") (number (unsigned j))
    (member (codes "rule") (string rule)
    (member (codes "start") (number (unsigned i))
    (member (codes "text") (string part_of_text) no_members))))

abbrev pub inner_data : List ℕ → ℕ → ℕ → Items → Data
inner_data rule i j inner = object
    (member (codes "children") (array inner)
    (member (codes "end") (number (unsigned j))
    (member (codes "rule") (string rule)
    (member (codes "start") (number (unsigned i)) no_members))))

-- a tree that holds these trees, or has its part of the text if there are none
abbrev pub tree_data : List ℕ → Text → ℕ → ℕ → Items → Data
tree_data text r i j no_items = leaf_data (encode_utf8_all r) i j (part text i j)
tree_data text r i j (item first others) = inner_data (encode_utf8_all r) i j (item first others)

-- trees in order
abbrev pub trees_data : List ℕ → Trees → Items
trees_data text None' = no_items
trees_data text (Tree r i j inner others) =
    item (tree_data text r i j (trees_data text inner)) (trees_data text others)

-- where a match ended, and its trees
abbrev pub ended_data : ℕ → Items → Data
ended_data end_ trees = object
    (member (codes "end") (number (unsigned end_)) (member (codes "trees") (array trees) no_members))

abbrev pub answer_data : List ℕ → ℕ → Trees → Data
answer_data text end_ trees = ended_data end_ (trees_data text trees)
