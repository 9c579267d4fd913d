-- Token trees as JSON, visit by visit.
use Rattle.std.specs.Prelude.{ℕ, ◌+◌, ◌==◌, Bool, false, true, List, [], ◌∷◌, ◌++◌, codes, decimal, drop, encode_utf8_all, if◌then◌else◌}
use Rattle.matcher_engine.specs.Walks.{Enters, Leaves, Visit, Visited}
use Rattle.matcher_support.specs.Shown.{part}
use Rattle.matcher_support.specs.Values.{leaf_data}
use Rattle.serde_json.specs.Data.{Data, number, unsigned, string, object, member, no_members}
use Rattle.serde_json.specs.Written.{comma_if, compact_text}

-- the rule of a tree and its positions
abbrev pub own_data : List ℕ → ℕ → ℕ → Data
own_data rule i j = object
    (member (codes "end") (number (unsigned j))
    (member (codes "rule") (string rule)
    (member (codes "start") (number (unsigned i)) no_members)))

-- the end of the match, and the text before the trees
abbrev pub head : ℕ → List ℕ
head end_ = codes "{\"end\":" ++ decimal end_ ++ codes ",\"trees\":["

-- the text of a leaf, or that of another tree after its children
abbrev pub closing : List ℕ → Bool → List ℕ → ℕ → ℕ → List ℕ
closing text leaf rule i j =
    if leaf then compact_text (leaf_data rule i j (part text i j))
    else codes "]," ++ drop 1 (compact_text (own_data rule i j))

abbrev pub is_leaf : Visited → Bool
is_leaf t = t.node.after == t.number + 1

abbrev pub is_left : Visit → Bool
is_left (Enters t) = false
is_left (Leaves t) = true

-- the part that a visit adds, if `later` says whether a tree was left before it
abbrev pub piece : List ℕ → Bool → Visit → List ℕ
piece text later (Enters t) = comma_if later ++ (if is_leaf t then [] else codes "{\"children\":[")
piece text later (Leaves t) = closing text (is_leaf t) (encode_utf8_all t.rule) t.node.start t.node.end

-- the parts that the visits of a walk add
abbrev pub flat : List ℕ → Bool → List Visit → List ℕ
flat text later [] = []
flat text later (v ∷ vs) = piece text later v ++ flat text (is_left v) vs
