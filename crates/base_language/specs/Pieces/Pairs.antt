-- Views of a pair and of pairs.
use Rattle.std.specs.Prelude.{◌≡◌, ◌<◌, ℕ, List, [], ◌∷◌, Option, Result, MatchOption, MatchResult, length, alloc_error}
use Rattle.base_language.specs.Pieces.TokenTrees.{TokenTrees, NoTokens, Token, preorder}
use Rattle.base_language.specs.Pieces.TreeViews.{trees_of}
use Rattle.base_language.specs.declared.runtime.tokens.Pair.{Pair}
use Rattle.base_language.specs.declared.runtime.tokens.Pairs.{Pairs}
use Rattle.base_language.specs.declared.runtime.tokens.FlatPairs.{FlatPairs}
use Rattle.base_language.specs.declared.runtime.faults.Fault.{Fault}
use Rattle.base_language.specs.declared.runtime.faults.Fault.TheVariants.{Memory}

-- the text that a pair is a part of, as bytes
abbrev pub pair_text : {R : Type 0} → Pair R → List ℕ
pair_text pair = pair.text.now

abbrev pub pair_rule : {R : Type 0} → Pair R → R
pair_rule pair = pair.rule

-- the byte at which a pair begins
abbrev pub pair_start : {R : Type 0} → Pair R → ℕ
pair_start pair = pair.start

-- the byte before which a pair ends
abbrev pub pair_end : {R : Type 0} → Pair R → ℕ
pair_end pair = pair.end

-- the trees inside a pair
abbrev pub pair_inner : {R : Type 0} → Pair R → TokenTrees R
pair_inner pair = trees_of pair.inner.items

-- the text that pairs are parts of, as bytes
abbrev pub pairs_text : {R : Type 0} → Pairs R → List ℕ
pairs_text pairs = pairs.text.now

-- the trees of the pairs that are left
abbrev pub pairs_trees : {R : Type 0} → Pairs R → TokenTrees R
pairs_trees pairs = trees_of pairs.rest.items

-- how many pairs are left, one after another
abbrev pub pairs_left : {R : Type 0} → Pairs R → ℕ
pairs_left pairs = length pairs.rest.items

-- the first pair is taken off the old pairs, and the new ones are left; none is left where there was none
abbrev pub TakesFirstPair : {R : Type 0} → Pairs R → Option (Pair R) → Pairs R → Type 0
TakesFirstPair old taken new = (pairs_text new ≡ pairs_text old)
    × MatchOption taken ((pairs_trees old ≡ NoTokens) × (pairs_trees new ≡ NoTokens))
    (λ pair. (pair_text pair ≡ pairs_text old)
    × (pairs_trees old ≡ Token (pair_rule pair) (pair_start pair) (pair_end pair) (pair_inner pair)
    (pairs_trees new)))

-- pairs of the same trees of the same text
abbrev pub IsSamePairs : {R : Type 0} → Pairs R → Pairs R → Type 0
IsSamePairs old new = (pairs_text new ≡ pairs_text old) × (pairs_trees new ≡ pairs_trees old)

-- the text that flattened pairs are parts of, as bytes
abbrev pub flat_text : {R : Type 0} → FlatPairs R → List ℕ
flat_text flat = flat.text.now

-- the trees of the pairs that are still to come, one by one
abbrev pub flat_pairs : {R : Type 0} → FlatPairs R → List (TokenTrees R)
flat_pairs flat = preorder (trees_of flat.rest.items)

-- the first pair is taken off the old ones, and the new ones are still to come
abbrev pub FirstOfAll : {R : Type 0} → FlatPairs R → Pair R → FlatPairs R → Type 0
FirstOfAll old pair new = (pair_text pair ≡ flat_text old)
    × (flat_pairs old ≡ Token (pair_rule pair) (pair_start pair) (pair_end pair) (pair_inner pair) NoTokens
    ∷ flat_pairs new)

-- the first pair is taken, where there is one
abbrev pub TakesFirstOfAll : {R : Type 0} → FlatPairs R → Option (Pair R) → FlatPairs R → Type 0
TakesFirstOfAll old taken new = (flat_text new ≡ flat_text old)
    × MatchOption taken ((flat_pairs old ≡ []) × (flat_pairs new ≡ [])) (λ pair. FirstOfAll old pair new)

-- the first pair is taken, if there is one; or memory for it is refused, and from then on there is none
abbrev pub TakesFirstOrFails : {R : Type 0} → FlatPairs R → Option (Result (Pair R) Fault) → FlatPairs R
    → Type 0
TakesFirstOrFails old taken new = (flat_text new ≡ flat_text old)
    × MatchOption taken ((flat_pairs old ≡ []) × (flat_pairs new ≡ []))
    (λ item. MatchResult item (λ pair. FirstOfAll old pair new)
    (λ fault. (fault ≡ Memory alloc_error) × (0 < length (flat_pairs old)) × (flat_pairs new ≡ [])))
