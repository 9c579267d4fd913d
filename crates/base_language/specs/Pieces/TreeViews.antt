-- The token trees of pairs.
use Rattle.std.specs.Prelude.{ℕ, List, map, fold, length}
use Rattle.base_language.specs.Pieces.TokenTrees.{TokenTrees, NoTokens, Token, followed_by, AreNested, AreNested-prop}
use Rattle.base_language.specs.declared.runtime.trees.TokenTree.{TokenTree, fold-TokenTree}
use Rattle.base_language.specs.declared.runtime.trees.TokenTree.TheOpen.{TokenTree-F}

-- trees that are kept with the last one first
abbrev pub in_order : {R : Type 0} → List (TokenTrees R) → TokenTrees R
in_order trees = fold (λ others tree. followed_by tree others) NoTokens trees

-- one level, with each tree inside already seen as its token tree
abbrev pub tree_step : {R : Type 0} → TokenTree-F R (TokenTrees R) → TokenTrees R
tree_step tree = Token tree.rule tree.start tree.end (in_order tree.inner.items) NoTokens

-- the token tree of the code
abbrev pub tree_of : {R : Type 0} → TokenTree R → TokenTrees R
tree_of {R} = fold-TokenTree R (TokenTrees R) tree_step

-- the token trees of the code, kept with the last one first
abbrev pub trees_of : {R : Type 0} → List (TokenTree R) → TokenTrees R
trees_of trees = in_order (map tree_of trees)

-- the trees of the code are nested within the whole of a text
abbrev pub AreNestedIn : {R : Type 0} → List ℕ → List (TokenTree R) → Type 0
AreNestedIn text trees = AreNested text (trees_of trees) 0 (length text)

-- there is one proof of it at most
pub AreNestedIn-prop : {R : Type 0} (text : List ℕ) (trees : List (TokenTree R))
    → IsProp (AreNestedIn text trees)
AreNestedIn-prop text trees = AreNested-prop text (trees_of trees) 0 (length text)
