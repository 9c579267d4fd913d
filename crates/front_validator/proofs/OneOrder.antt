-- By a stable sort a list has one order.
use Rattle.std.proofs.Common.{◌≡◌, ℕ, suc, ◌+◌, List, [], ◌∷◌, Bool, true, false, cond, Some, slice_get, refl, sym, ◌∙◌, ap, subst, add-one}
use Rattle.std.specs.Cmp.{IsStrictWeakOrder}
use Rattle.std.specs.List.{All, filter}
use Rattle.std.specs.List.Sorted.{ties}
use Rattle.std.proofs.lemmas.List.Elements.{All-nil, All-cons, All-head, All-tail, All-same, All-weaker, All-filter}

module _ {X : Type 0} (lt : X → X → Bool) (order : IsStrictWeakOrder lt) where
  -- none stands before one that is in front of it
  abbrev pub Rises : List X → Type 0
  Rises [] = Unit {0}
  Rises (x ∷ xs) = All (λ y. lt y x ≡ false) xs × Rises xs

  -- the two lists have the same elements that tie with x, in the same order
  abbrev pub AgreeAt : List X → List X → X → Type 0
  AgreeAt xs ys x = filter (ties lt x) xs ≡ filter (ties lt x) ys

  -- it is enough that no neighbours stand the other way round
  pub rises : (xs : List X) → ((i : ℕ) (x y : X) → slice_get xs i ≡ Some x → slice_get xs (i + 1) ≡ Some y → lt y x ≡ false) → Rises xs
  rises [] h = tt
  rises (x ∷ []) h = (All-nil (λ y. lt y x ≡ false), tt)
  rises (x ∷ y ∷ ys) h =
      let next = h 0 x y refl refl in
      let behind = rises (y ∷ ys) (λ i a b e f. h (suc i) a b e (rw add-one (rw add-one at f))) in
      (All-cons (λ z. lt z x ≡ false) y ys next (All-weaker (λ z. lt z y ≡ false) (λ z. lt z x ≡ false) (λ z l. order.chain z y x l next) ys behind.0), behind)

  never_itself : (x : X) → lt x x ≡ false
  never_itself x = go (lt x x) refl
    where
      go : (b : Bool) → lt x x ≡ b → lt x x ≡ false
      go false e = e
      go true e = order.one_way x x e

  ties_itself : (x : X) → ties lt x x ≡ true
  ties_itself x = rw never_itself refl

  kept_first : (p : X → Bool) (x : X) (xs : List X) → p x ≡ true → filter p (x ∷ xs) ≡ x ∷ filter p xs
  kept_first p x xs h = rw h refl

  -- the first that is kept is one of the list
  of_first : (P : X → Type 0) (p : X → Bool) (xs zs : List X) (x : X) → filter p xs ≡ x ∷ zs → All P xs → P x
  of_first P p xs zs x e all = All-head P x zs (All-same P (x ∷ zs) (filter p xs) (sym e) (All-filter p P xs all))

  firsts_tie : (x y : X) (xs ys : List X) → Rises (x ∷ xs) → Rises (y ∷ ys) → AgreeAt (x ∷ xs) (y ∷ ys) x → AgreeAt (x ∷ xs) (y ∷ ys) y → ties lt x y ≡ true
  firsts_tie x y xs ys r s a b =
      let above = of_first (λ z. lt z y ≡ false) (ties lt x) (y ∷ ys) (filter (ties lt x) xs) x (sym a ∙ kept_first (ties lt x) x xs (ties_itself x)) (All-cons (λ z. lt z y ≡ false) y ys (never_itself y) s.0) in
      let below = of_first (λ z. lt z x ≡ false) (ties lt y) (x ∷ xs) (filter (ties lt y) ys) y (b ∙ kept_first (ties lt y) y ys (ties_itself y)) (All-cons (λ z. lt z x ≡ false) x xs (never_itself x) r.0) in
      rw (above, below) refl

  same_first : (x y : X) (xs ys : List X) → ties lt x y ≡ true → AgreeAt (x ∷ xs) (y ∷ ys) x → x ≡ y
  same_first x y xs ys t a =
      let e = sym (kept_first (ties lt x) x xs (ties_itself x)) ∙ a ∙ kept_first (ties lt x) y ys t in cc

  same_rest : (c : Bool) (x : X) (xs ys : List X) → cond c (x ∷ xs) xs ≡ cond c (x ∷ ys) ys → xs ≡ ys
  same_rest true x xs ys e = cc
  same_rest false x xs ys e = e

  behind_firsts : (x y : X) (xs ys : List X) → x ≡ y → (z : X) → AgreeAt (x ∷ xs) (y ∷ ys) z → AgreeAt xs ys z
  behind_firsts x y xs ys e z a =
      same_rest (ties lt z x) x (filter (ties lt z) xs) (filter (ties lt z) ys) (subst (λ w. AgreeAt (x ∷ xs) (w ∷ ys) z) (sym e) a)

  -- two lists in order are one, if they agree at each of their elements
  pub one_order : (xs ys : List X) → Rises xs → Rises ys → All (AgreeAt xs ys) xs → All (AgreeAt xs ys) ys → xs ≡ ys
  one_order [] [] r s a b = refl
  one_order [] (y ∷ ys) r s a b =
      let e = All-head (AgreeAt [] (y ∷ ys)) y ys b ∙ kept_first (ties lt y) y ys (ties_itself y) in cc
  one_order (x ∷ xs) [] r s a b =
      let e = sym (kept_first (ties lt x) x xs (ties_itself x)) ∙ All-head (AgreeAt (x ∷ xs) []) x xs a in cc
  one_order (x ∷ xs) (y ∷ ys) r s a b =
      let at = AgreeAt (x ∷ xs) (y ∷ ys) in
      let t = firsts_tie x y xs ys r s (All-head at x xs a) (All-head at y ys b) in
      let e = same_first x y xs ys t (All-head at x xs a) in
      let less = behind_firsts x y xs ys e in
      let tails = one_order xs ys r.1 s.1 (All-weaker at (AgreeAt xs ys) less xs (All-tail at x xs a)) (All-weaker at (AgreeAt xs ys) less ys (All-tail at y ys b)) in
      ap (λ z. z ∷ xs) e ∙ ap (λ zs. y ∷ zs) tails
