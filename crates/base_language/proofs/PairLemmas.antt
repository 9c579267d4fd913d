-- Trees that are kept with the last one first, and where trees stand.
use Rattle.std.proofs.Common.{◌≡◌, ℕ, ◌≤◌, ◌<◌, length, Result, Ok, Err, OnErr, Bool, true, false, cond, List, [], ◌∷◌, ◌++◌, Option, Some, None, map, fold, refl, subst, ap, sym, ◌∙◌, append_assoc, arith}
use Rattle.std.specs.Option.{option_to_list}
use Rattle.std.proofs.lemmas.List.{map_push, map-append, append-nil}
use Rattle.std.proofs.lemmas.List.Sums.{fold_push, fold-append}
use Rattle.base_language.specs.Pieces.TokenTrees.{TokenTrees, NoTokens, Token, followed_by, preorder, AreNested}
use Rattle.base_language.specs.Pieces.TreeViews.{tree_of, tree_step, trees_of, in_order}
use Rattle.base_language.specs.declared.runtime.trees.TokenTree.{TokenTree}
use Rattle.base_language.specs.declared.runtime.trees.TokenTree.TheViews.{out-TokenTree}
use Rattle.base_language.specs.declared.runtime.trees.TokenTree.TheFolds.{fold_out-TokenTree}

pub tree_of_out : {R : Type 0} (tree : TokenTree R) → let t = out-TokenTree R tree in tree_of tree ≡ Token t.rule t.start t.end (trees_of t.inner.items) NoTokens
tree_of_out {R} tree = fold_out-TokenTree R (TokenTrees R) tree_step tree

-- the last of the list is the first tree
pub trees_of_push : {R : Type 0} (trees : List (TokenTree R)) (tree : TokenTree R) → trees_of (trees ++ tree ∷ []) ≡ followed_by (tree_of tree) (trees_of trees)
trees_of_push trees tree =
    ap in_order (map_push tree_of trees tree)
    ∙ fold_push (λ others t. followed_by t others) NoTokens (map tree_of trees) (tree_of tree)

pub AreNested-le : {R : Type 0} (text : List ℕ) (trees : TokenTrees R) (from to : ℕ) → AreNested text trees from to → from ≤ to
AreNested-le text NoTokens from to nested = nested
AreNested-le text (Token rule start end_ inner others) from to nested =
    omega (arith, nested.0.0, AreNested-le text inner start end_ nested.1.0, AreNested-le text others end_ to nested.1.1)

-- between bytes further apart
pub AreNested-wider : {R : Type 0} (text : List ℕ) (trees : TokenTrees R) (from to from' to' : ℕ) → AreNested text trees from to → from' ≤ from → to ≤ to' → AreNested text trees from' to'
AreNested-wider text NoTokens from to from' to' nested low high = omega arith
AreNested-wider text (Token rule start end_ inner others) from to from' to' nested low high =
    ((omega arith, nested.0.1), (nested.1.0, AreNested-wider text others end_ to end_ to' nested.1.1 (omega arith) high))

-- the trees before the first tree was taken and taken apart
pub trees_of_popped : {R : Type 0} (old new : List (TokenTree R)) (tree : TokenTree R) (rule : R) (start end_ : ℕ) (inner : TokenTrees R) → old ≡ new ++ tree ∷ []
    → tree_of tree ≡ Token rule start end_ inner NoTokens → trees_of old ≡ Token rule start end_ inner (trees_of new)
trees_of_popped old new tree rule start end_ inner split apart =
    ap trees_of split ∙ trees_of_push new tree ∙ ap (λ t. followed_by t (trees_of new)) apart

pub AreNested-first : {R : Type 0} (text : List ℕ) (old new : List (TokenTree R)) (tree : TokenTree R) (rule : R) (start end_ : ℕ) (inner : TokenTrees R) (to : ℕ)
    → old ≡ new ++ tree ∷ [] → tree_of tree ≡ Token rule start end_ inner NoTokens → AreNested text (trees_of old) 0 to → AreNested text (Token rule start end_ inner (trees_of new)) 0 to
AreNested-first text old new tree rule start end_ inner to split apart nested =
    subst (λ ts. AreNested text ts 0 to) (trees_of_popped old new tree rule start end_ inner split apart) nested

-- what is left when the first tree is taken
pub AreNested-popped : {R : Type 0} (text : List ℕ) (old new : List (TokenTree R)) (taken : Option (TokenTree R)) (to : ℕ) → old ≡ new ++ option_to_list taken → AreNested text (trees_of old) 0 to → AreNested text (trees_of new) 0 to
AreNested-popped text old new None to split nested = subst (λ ts. AreNested text (trees_of ts) 0 to) (split ∙ append-nil new) nested
AreNested-popped text old new (Some tree) to split nested =
    let t = out-TokenTree _ tree in
    let parts = AreNested-first text old new tree t.rule t.start t.end (trees_of t.inner.items) to split (tree_of_out tree) nested in
    AreNested-wider text (trees_of new) t.end to 0 to parts.1.1 (omega arith) (omega arith)

-- copies stand where the trees stand
pub AreNested-copied : {R : Type 0} (text : List ℕ) (trees copies : List (TokenTree R)) (from to : ℕ) → map tree_of copies ≡ map tree_of trees → AreNested text (trees_of trees) from to → AreNested text (trees_of copies) from to
AreNested-copied text trees copies from to same nested = subst (λ ts. AreNested text ts from to) (ap in_order (sym same)) nested

followed_by_assoc : {R : Type 0} (a b d : TokenTrees R) → followed_by (followed_by a b) d ≡ followed_by a (followed_by b d)
followed_by_assoc NoTokens b d = refl
followed_by_assoc (Token rule start end_ inner others) b d = ap (Token rule start end_ inner) (followed_by_assoc others b d)

followed_by-NoTokens : {R : Type 0} (trees : TokenTrees R) → followed_by trees NoTokens ≡ trees
followed_by-NoTokens NoTokens = refl
followed_by-NoTokens (Token rule start end_ inner others) = ap (Token rule start end_ inner) (followed_by-NoTokens others)

-- trees that are kept behind others come before them
in_order_onto : {R : Type 0} (others : TokenTrees R) (trees : List (TokenTrees R)) → fold (λ rest tree. followed_by tree rest) others trees ≡ followed_by (in_order trees) others
in_order_onto others [] = refl
in_order_onto others (tree ∷ trees) =
    in_order_onto (followed_by tree others) trees
    ∙ ap (λ t. followed_by (in_order trees) (followed_by t others)) (sym (followed_by-NoTokens tree))
    ∙ sym (followed_by_assoc (in_order trees) (followed_by tree NoTokens) others)
    ∙ ap (λ ts. followed_by ts others) (sym (in_order_onto (followed_by tree NoTokens) trees))

pub trees_of-append : {R : Type 0} (late early : List (TokenTree R)) → trees_of (late ++ early) ≡ followed_by (trees_of early) (trees_of late)
trees_of-append late early =
    ap in_order (map-append tree_of late early)
    ∙ fold-append (λ rest tree. followed_by tree rest) NoTokens (map tree_of late) (map tree_of early)
    ∙ in_order_onto (trees_of late) (map tree_of early)

preorder-followed_by : {R : Type 0} (a b : TokenTrees R) → preorder (followed_by a b) ≡ preorder a ++ preorder b
preorder-followed_by NoTokens b = refl
preorder-followed_by (Token rule start end_ inner others) b =
    ap (λ ts. Token rule start end_ inner NoTokens ∷ ts) (ap (λ ts. preorder inner ++ ts) (preorder-followed_by others b) ∙ sym (append_assoc (preorder inner) (preorder others) (preorder b)))

AreNested-followed_by : {R : Type 0} (text : List ℕ) (a b : TokenTrees R) (from middle to : ℕ) → AreNested text a from middle → AreNested text b middle to → AreNested text (followed_by a b) from to
AreNested-followed_by text NoTokens b from middle to first second = AreNested-wider text b middle to from to second first (omega arith)
AreNested-followed_by text (Token rule start end_ inner others) b from middle to first second =
    (first.0, (first.1.0, AreNested-followed_by text others b end_ middle to first.1.1 second))

-- the first tree was taken, and the trees inside it put in its place, where there was memory for them
pub AreNested-opened : {R : Type 0} (text : List ℕ) (old new after inner : List (TokenTree R)) (tree : TokenTree R) (rule : R) (start end_ : ℕ) (opened : Bool) (to : ℕ)
    → old ≡ new ++ tree ∷ [] → tree_of tree ≡ Token rule start end_ (trees_of inner) NoTokens
    → after ≡ cond opened (new ++ inner) new → AreNested text (trees_of old) 0 to → AreNested text (trees_of after) 0 to
AreNested-opened text old new after inner tree rule start end_ false to split apart left nested =
    subst (λ ts. AreNested text (trees_of ts) 0 to) (sym left) (AreNested-popped text old new (Some tree) to split nested)
AreNested-opened text old new after inner tree rule start end_ true to split apart left nested =
    let parts = AreNested-first text old new tree rule start end_ (trees_of inner) to split apart nested in
    let inside = AreNested-wider text (trees_of inner) start end_ 0 end_ parts.1.0 (omega arith) (omega arith) in
    subst (λ ts. AreNested text ts 0 to) (sym (ap trees_of left ∙ trees_of-append new inner))
    (AreNested-followed_by text (trees_of inner) (trees_of new) 0 end_ to inside parts.1.1)

pub preorder_opened : {R : Type 0} (old new after inner copies : List (TokenTree R)) (tree : TokenTree R) (rule : R) (start end_ : ℕ) → old ≡ new ++ tree ∷ []
    → tree_of tree ≡ Token rule start end_ (trees_of inner) NoTokens → after ≡ new ++ inner → map tree_of copies ≡ map tree_of inner
    → preorder (trees_of old) ≡ Token rule start end_ (trees_of copies) NoTokens ∷ preorder (trees_of after)
preorder_opened old new after inner copies tree rule start end_ split apart left copied =
    ap preorder (trees_of_popped old new tree rule start end_ (trees_of inner) split apart)
    ∙ ap (λ ts. Token rule start end_ (trees_of inner) NoTokens ∷ ts) (sym (ap preorder (ap trees_of left ∙ trees_of-append new inner) ∙ preorder-followed_by (trees_of inner) (trees_of new)))
    ∙ ap (λ i. Token rule start end_ i NoTokens ∷ preorder (trees_of after)) (sym (ap in_order copied))

-- where a tree was taken there are pairs
pub some_pairs : {R : Type 0} (old new : List (TokenTree R)) (tree : TokenTree R) → old ≡ new ++ tree ∷ [] → 0 < length (preorder (trees_of old))
some_pairs old new tree split = subst (λ ts. 0 < length (preorder ts)) (sym (trees_of_popped old new tree _ _ _ _ split (tree_of_out tree))) (omega arith)

pub on_err : {A E C : Type 0} (r : Result A E) → C → OnErr r C
on_err (Ok x) h = tt
on_err (Err e) h = h
