-- What copies of trees will be, while trees within one another are begun.
use Rattle.std.proofs.Common.{◌≡◌, ℕ, ◌+◌, ◌<◌, ◌-◌, length, List, [], ◌∷◌, ◌++◌, map, refl, ap, sym, ◌∙◌, append_assoc, arith}
use Rattle.std.proofs.lemmas.List.{map_push, append-nil}
use Rattle.std.proofs.Math.Seq.{take-length}
use Rattle.std.proofs.Math.ListN.{take, drop, get_or}
use Rattle.base_language.specs.Pieces.TokenTrees.{TokenTrees, NoTokens, Token, followed_by}
use Rattle.base_language.specs.Pieces.TreeViews.{tree_of, trees_of, in_order}
use Rattle.base_language.specs.declared.runtime.trees.Begun.{Begun}
use Rattle.base_language.specs.declared.runtime.trees.TokenTree.{TokenTree}
use Rattle.base_language.specs.declared.runtime.trees.TokenTree.TheViews.{out-TokenTree}
use Rattle.base_language.proofs.LettingGo.{steps}
use Rattle.base_language.proofs.PairLemmas.{tree_of_out, trees_of-append}

-- the copies around a tree that is begun, if these are the trees inside it
abbrev pub around : {R : Type 0} → Begun R → List (TokenTrees R) → List (TokenTrees R)
around {R} begun inner = let t = out-TokenTree R begun.tree.now in
    map tree_of begun.copies.items ++ Token t.rule t.start t.end (in_order inner) NoTokens ∷ map tree_of begun.others.now

-- all copies, if these are those of the innermost list; of the trees that are begun the outermost comes first
abbrev pub all_copies : {R : Type 0} → List (Begun R) → List (TokenTrees R) → List (TokenTrees R)
all_copies [] inner = inner
all_copies (outer ∷ begun) inner = around outer (all_copies begun inner)

pub all_copies_push : {R : Type 0} (begun : List (Begun R)) (last : Begun R) (inner : List (TokenTrees R)) → all_copies (begun ++ last ∷ []) inner ≡ all_copies begun (around last inner)
all_copies_push [] last inner = refl
all_copies_push (outer ∷ begun) last inner = ap (around outer) (all_copies_push begun last inner)

-- the copy of a tree is begun
pub begins : {R : Type 0} (begun : List (Begun R)) (last : Begun R) (none : List (TokenTree R)) → none ≡ []
    → all_copies (begun ++ last ∷ []) (map tree_of none ++ map tree_of (out-TokenTree R last.tree.now).inner.items) ≡ all_copies begun (map tree_of last.copies.items ++ map tree_of (last.tree.now ∷ last.others.now))
begins begun last none empty =
    all_copies_push begun last _
    ∙ ap (λ ts. all_copies begun (around last (map tree_of ts ++ map tree_of (out-TokenTree _ last.tree.now).inner.items))) empty
    ∙ ap (λ t. all_copies begun (map tree_of last.copies.items ++ t ∷ map tree_of last.others.now)) (sym (tree_of_out last.tree.now))

-- the copy of a tree is made
pub makes : {R : Type 0} (old begun : List (Begun R)) (last : Begun R) (inner after : List (TokenTree R)) (copy : TokenTree R) → old ≡ begun ++ last ∷ []
    → tree_of copy ≡ (let t = out-TokenTree R last.tree.now in Token t.rule t.start t.end (trees_of inner) NoTokens) → after ≡ last.copies.items ++ copy ∷ []
    → all_copies begun (map tree_of after ++ map tree_of last.others.now) ≡ all_copies old (map tree_of inner ++ [])
makes begun_before begun last inner after copy split made pushed =
    ap (λ ts. all_copies begun (ts ++ map tree_of last.others.now)) (ap (map tree_of) pushed ∙ map_push tree_of last.copies.items copy)
    ∙ ap (all_copies begun) (append_assoc (map tree_of last.copies.items) (tree_of copy ∷ []) (map tree_of last.others.now))
    ∙ ap (λ t. all_copies begun (map tree_of last.copies.items ++ t ∷ map tree_of last.others.now)) made
    ∙ sym (all_copies_push begun last (map tree_of inner))
    ∙ ap (λ bs. all_copies bs (map tree_of inner)) (sym split)
    ∙ ap (all_copies begun_before) (sym (append-nil (map tree_of inner)))

-- how many steps are left
abbrev pub steps_behind : {R : Type 0} → List (Begun R) → ℕ
steps_behind [] = 0
steps_behind (outer ∷ begun) = 1 + steps (trees_of outer.others.now) + steps_behind begun

pub steps_behind_push : {R : Type 0} (begun : List (Begun R)) (last : Begun R) → steps_behind (begun ++ last ∷ []) ≡ steps_behind begun + (1 + steps (trees_of last.others.now))
steps_behind_push [] last = omega arith
steps_behind_push (outer ∷ begun) last = let rest = steps_behind_push begun last in omega (arith, rest)

steps-followed_by : {R : Type 0} (first second : TokenTrees R) → steps (followed_by first second) ≡ steps first + steps second
steps-followed_by NoTokens second = omega arith
steps-followed_by (Token rule start end_ inner others) second = let rest = steps-followed_by others second in omega (arith, rest)

pub steps_first : {R : Type 0} (tree : TokenTree R) (others : List (TokenTree R)) → steps (trees_of (tree ∷ others)) ≡ 2 + steps (trees_of (out-TokenTree R tree).inner.items) + steps (trees_of others)
steps_first tree others =
    let split = ap steps (trees_of-append (tree ∷ []) others) ∙ steps-followed_by (trees_of others) (trees_of (tree ∷ [])) in
    let one = ap (λ t. steps (followed_by t NoTokens)) (tree_of_out tree) in
    omega (arith, split, one)

-- all copies are made
pub ends : {R : Type 0} (begun : List (Begun R)) (copies left trees : List (TokenTree R)) → begun ≡ [] → left ≡ []
    → all_copies begun (map tree_of copies ++ map tree_of left) ≡ map tree_of trees → map tree_of copies ≡ map tree_of trees
ends begun copies left trees none no_more kept =
    sym (append-nil (map tree_of copies))
    ∙ ap (λ ts. map tree_of copies ++ map tree_of ts) (sym no_more)
    ∙ ap (λ bs. all_copies bs (map tree_of copies ++ map tree_of left)) (sym none)
    ∙ kept

-- a list that was taken apart into its first and the others
pub first_and_others : {X : Type 0} (xs : List X) (x : X) (end_ : ℕ) → x ≡ get_or xs 0 x → 0 < length xs → end_ ≡ length xs → xs ≡ x ∷ take (end_ - 1) (drop 1 xs)
first_and_others [] x end_ first some all = absurd (omega arith)
first_and_others (y ∷ ys) x end_ first some all =
    ap (λ z. z ∷ ys) (sym first)
    ∙ ap (λ zs. x ∷ zs) (sym (take-length ys) ∙ ap (λ n. take n ys) (omega (arith, all)))

-- the copy of the first tree that is left is begun
pub begins_first : {R : Type 0} (old new : List (Begun R)) (last : Begun R) (none inner left : List (TokenTree R)) → new ≡ old ++ last ∷ [] → none ≡ []
    → inner ≡ (out-TokenTree R last.tree.now).inner.items → left ≡ last.tree.now ∷ last.others.now
    → all_copies new (map tree_of none ++ map tree_of inner) ≡ all_copies old (map tree_of last.copies.items ++ map tree_of left)
begins_first old new last none inner left pushed empty is_inner split =
    ap (λ bs. all_copies bs (map tree_of none ++ map tree_of inner)) pushed
    ∙ ap (λ ts. all_copies (old ++ last ∷ []) (map tree_of none ++ map tree_of ts)) is_inner
    ∙ begins old last none empty
    ∙ ap (λ ts. all_copies old (map tree_of last.copies.items ++ map tree_of ts)) (sym split)

pub begins_falls : {R : Type 0} (old new : List (Begun R)) (last : Begun R) (inner left : List (TokenTree R)) → new ≡ old ++ last ∷ []
    → inner ≡ (out-TokenTree R last.tree.now).inner.items → left ≡ last.tree.now ∷ last.others.now
    → steps_behind new + steps (trees_of inner) < steps_behind old + steps (trees_of left)
begins_falls old new last inner left pushed is_inner split =
    let behind = ap steps_behind pushed ∙ steps_behind_push old last in
    let whole = ap (λ ts. steps (trees_of ts)) split ∙ steps_first last.tree.now last.others.now in
    let inside = ap (λ ts. steps (trees_of ts)) is_inner in
    omega (arith, behind, whole, inside)
