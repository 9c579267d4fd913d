-- Texts that are joined: the first, and behind it each other behind what stands between them.
use Rattle.std.proofs.Common.{◌≡◌, ℕ, ◌-◌, ◌≤◌, List, [], ◌∷◌, ◌++◌, length, get_or, take, drop, refl, ◌∙◌, arith, append_assoc, length-drop}
use Rattle.std.proofs.lemmas.List.{take_all}
use Rattle.std.specs.List.{flat_map, join_by}

join_by-first : {X : Type 0} (f : X → List ℕ) (sep : List ℕ) (xs : List X) (x : X) → 1 ≤ length xs → x ≡ get_or xs 0 x → join_by f sep xs ≡ f x ++ flat_map (λ y. sep ++ f y) (drop 1 xs)
join_by-first f sep [] x h e = absurd (omega arith)
join_by-first f sep (y ∷ ys) x h e = rw e refl

others_are_all : {X : Type 0} (xs : List X) → take (length xs - 1) (drop 1 xs) ≡ drop 1 xs
others_are_all xs = take_all (length xs - 1) (drop 1 xs) (rw length-drop (omega arith))

pub joined : {X : Type 0} (f : X → List ℕ) (sep head : List ℕ) (xs others : List X) (x : X) (i : ℕ) (first all : List ℕ)
    → 1 ≤ length xs → x ≡ get_or xs 0 x → others ≡ take (length xs - 1) (drop 1 xs) → length others ≤ i
    → first ≡ head ++ f x → all ≡ first ++ flat_map (λ y. sep ++ f y) (take i others) → all ≡ head ++ join_by f sep xs
joined f sep head xs others x i first all h e o l a b =
    let taken = take_all i others l ∙ o ∙ others_are_all xs in
    rw (b, taken, a, join_by-first f sep xs x h e) (append_assoc head (f x) (flat_map (λ y. sep ++ f y) (drop 1 xs)))
