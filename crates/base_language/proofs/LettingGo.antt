-- What is left to be let go of trees falls while they are let go.
use Rattle.std.proofs.Common.{◌≡◌, ℕ, ◌+◌, ◌-◌, ◌<◌, ◌≤◌, length, List, [], ◌∷◌, ◌++◌, refl, subst, ap, sym, ◌∙◌, arith, slice_set, suc}
use Rattle.std.proofs.lemmas.List.{set_split, take_more}
use Rattle.std.proofs.Math.Seq.{take-length}
use Rattle.std.proofs.Math.ListN.{take, drop_of_length-le, get_or}
use Rattle.base_language.specs.Pieces.TokenTrees.{TokenTrees, NoTokens, Token}
use Rattle.base_language.specs.Pieces.TreeViews.{tree_of, trees_of}
use Rattle.base_language.specs.declared.runtime.trees.TokenTree.{TokenTree}
use Rattle.base_language.specs.declared.runtime.trees.TokenTree.TheBlock.{the_depth, member-TokenTree}
use Rattle.base_language.specs.declared.runtime.trees.TokenTree.TheViews.{out-TokenTree}
use Rattle.base_language.proofs.PairLemmas.{tree_of_out, trees_of_popped}
use denote.Hole.Rolled.{depth_is}

-- two steps are left for each tree, at any depth
abbrev pub steps : {R : Type 0} → TokenTrees R → ℕ
steps NoTokens = 0
steps (Token rule start end_ inner others) = 2 + steps inner + steps others

-- one for a first tree that was gone into, and keeps what is above in the place of the trees inside it
abbrev pub steps_above : {R : Type 0} → TokenTrees R → ℕ
steps_above NoTokens = 0
steps_above (Token rule start end_ inner others) = 1 + steps_above inner + steps others

-- a tree has some depth
pub has_depth : {R : Type 0} (tree : TokenTree R) → 0 < the_depth R member-TokenTree tree
unfolding the_depth
has_depth {R} tree = subst (λ n. 0 < n) (sym (depth_is _ _ _ member-TokenTree tree)) (omega arith)

pub nothing_left : {X : Type 0} (xs : List X) → length xs ≤ 0 → xs ≡ []
nothing_left [] none = refl
nothing_left (x ∷ xs) none = absurd (omega arith)

-- a list in two: what stands before its last, and that
last_split : {X : Type 0} (xs : List X) (d : X) → 0 < length xs → xs ≡ take (length xs - 1) xs ++ get_or xs (length xs - 1) d ∷ []
last_split xs d some =
    sym (take-length xs)
    ∙ ap (λ n. take n xs) (omega arith)
    ∙ take_more xs (length xs - 1) d (omega arith)

set_last : {X : Type 0} (xs : List X) (x : X) → 0 < length xs → slice_set xs (length xs - 1) x ≡ take (length xs - 1) xs ++ x ∷ []
set_last xs x some =
    set_split xs (length xs - 1) x (omega arith)
    ∙ ap (λ ys. take (length xs - 1) xs ++ x ∷ ys) (drop_of_length-le xs {i = suc (length xs - 1)} (omega arith))

-- the last tree is gone into, and keeps what was above
pub falls_down : {R : Type 0} (trees above inner kept : List (TokenTree R)) (last entered : TokenTree R) (n : ℕ) → n ≡ length trees → 0 < length trees
    → last ≡ get_or trees (n - 1) last → inner ≡ (out-TokenTree R last).inner.items → (out-TokenTree R entered).inner.items ≡ above → kept ≡ slice_set trees (n - 1) entered
    → steps (trees_of inner) + steps_above (trees_of kept) < steps (trees_of trees) + steps_above (trees_of above)
falls_down trees above inner kept last entered n all some is_last is_inner keeps is_kept =
    let others = take (length trees - 1) trees in
    let split = last_split trees last some ∙ ap (λ t. others ++ t ∷ []) (sym (is_last ∙ ap (λ m. get_or trees (m - 1) last) all)) in
    let before = ap steps (trees_of_popped trees others last _ _ _ _ split (tree_of_out last)) in
    let set = is_kept ∙ ap (λ m. slice_set trees (m - 1) entered) all ∙ set_last trees entered some in
    let after = ap steps_above (trees_of_popped kept others entered _ _ _ _ set (tree_of_out entered)) in
    let up = ap (λ ts. steps_above (trees_of ts)) keeps in
    let down = ap (λ ts. steps (trees_of ts)) is_inner in
    omega (arith, before, after, up, down)

-- the last tree is let go, and what it kept is above again
pub falls_up : {R : Type 0} (trees above others kept : List (TokenTree R)) (emptied : TokenTree R) (rule : R) (start end_ : ℕ) → above ≡ others ++ emptied ∷ []
    → tree_of emptied ≡ Token rule start end_ (trees_of kept) NoTokens
    → steps (trees_of others) + steps_above (trees_of kept) < steps (trees_of trees) + steps_above (trees_of above)
falls_up trees above others kept emptied rule start end_ split apart =
    let before = ap steps_above (trees_of_popped above others emptied rule start end_ (trees_of kept) split apart) in
    omega (arith, before)
