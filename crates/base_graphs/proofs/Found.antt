-- There are least flags, whatever follows from what.
use Rattle.std.proofs.Common.{◌≡◌, ℕ, zero, suc, ◌<◌, ◌≤◌, ◌⊎◌, inl, inr, List, [], ◌∷◌, Option, Some, None, Bool, true, false, slice_get, length, refl, sym, ◌∙◌, ap, subst, arith}
use Rattle.std.proofs.Math.ListN.{set}
use Rattle.std.proofs.lemmas.Bool.{cases_lt}
use Rattle.std.proofs.lemmas.List.{length-set}
use Rattle.std.proofs.lemmas.Option.{slice_get_within}
use Rattle.base_graphs.specs.Least.{is_set_at, unset, AreSound, AreClosed, IsClosedAt}
use Rattle.base_graphs.proofs.LeastLemmas.{sound_one, unset_less}

clash : (b : Bool) → b ≡ true → b ≡ false → ⊥
clash b g h = let e = sym g ∙ h in cc

module _ {A : Type 0} (infers : (ℕ → Bool) → A → Bool) (items : List A) where
  -- an item whose flag follows, and is not set
  pub record IsOpen (flags : List Bool) : Type 0 where
    pub place : ℕ
    pub item : A
    pub at : slice_get items place ≡ Some item
    pub yes : infers (is_set_at flags) item ≡ true
    pub off : is_set_at flags place ≡ false

  abbrev AreClosedTo : List Bool → ℕ → Type 0
  AreClosedTo flags k = (i : ℕ) → i < k → IsClosedAt infers items flags i

  one_more : (flags : List Bool) (k : ℕ) → AreClosedTo flags k → IsClosedAt infers items flags k → AreClosedTo flags (suc k)
  one_more flags k f g i h = elim (cases_lt i k) [
    | inl l ↦ f i l
    | inr l ↦ let e : k ≡ i = omega arith in subst (IsClosedAt infers items flags) e g
  ]

  closed_or_open : (flags : List Bool) (k : ℕ) → IsClosedAt infers items flags k ⊎ IsOpen flags
  closed_or_open flags k = go (slice_get items k) refl
    where
      same : (n m : A) → slice_get items k ≡ Some n → slice_get items k ≡ Some m → n ≡ m
      same n m e f = let h : Some n ≡ Some m = sym e ∙ f in cc

      by_flag : (n : A) → slice_get items k ≡ Some n → (a b : Bool) → infers (is_set_at flags) n ≡ a → is_set_at flags k ≡ b → IsClosedAt infers items flags k ⊎ IsOpen flags
      by_flag n at a true e f = inl (λ m is w. f)
      by_flag n at true false e f = inr (record { place = k; item = n; at = at; yes = e; off = f })
      by_flag n at false false e f = inl (λ m is w. absurd (clash (infers (is_set_at flags) n) (subst (λ z. infers (is_set_at flags) z ≡ true) (same m n is at) w) e))

      go : (o : Option A) → slice_get items k ≡ o → IsClosedAt infers items flags k ⊎ IsOpen flags
      go None e = inl (λ n at w. let h : None ≡ Some n = sym e ∙ at in cc)
      go (Some n) e = by_flag n e (infers (is_set_at flags) n) (is_set_at flags k) refl refl

  look : (flags : List Bool) (k : ℕ) → AreClosedTo flags k ⊎ IsOpen flags
  look flags zero = inl (λ i h. absurd (omega arith))
  look flags (suc k) = elim (look flags k) [
    | inl f ↦ elim (closed_or_open flags k) [ inl g ↦ inl (one_more flags k f g) | inr o ↦ inr o ]
    | inr o ↦ inr o
  ]

  -- flags that are sound and closed
  pub record AreFound : Type 0 where
    pub flags : List Bool
    pub sound : AreSound infers items flags
    pub closed : AreClosed infers items flags

  all_closed : (flags : List Bool) → AreSound infers items flags → AreClosedTo flags (length items) → AreFound
  all_closed flags s f = record { flags = flags; sound = s; closed = λ i n at w. f i (slice_get_within items i n at) n at w }

  fill : (m : ℕ) (flags : List Bool) → unset flags ≤ m → AreSound infers items flags → AreFound
  fill zero flags l s = elim (look flags (length items)) [
    | inl f ↦ all_closed flags s f
    | inr o ↦
        let w = slice_get_within items o.place o.item o.at in
        let a = s.alike in
        let e = unset_less flags o.place (omega arith) o.off in absurd (omega arith)
  ]
  fill (suc m) flags l s = elim (look flags (length items)) [
    | inl f ↦ all_closed flags s f
    | inr o ↦
        let w = slice_get_within items o.place o.item o.at in
        let a = s.alike in
        let e = unset_less flags o.place (omega arith) o.off in
        fill m (set flags o.place true) (omega arith) (sound_one infers items flags o.place o.item o.at o.yes (length-set flags o.place true) s)
  ]

  abbrev none_of : List A → List Bool
  none_of [] = []
  none_of (n ∷ l) = false ∷ none_of l

  as_many : (l : List A) → length (none_of l) ≡ length l
  as_many [] = refl
  as_many (n ∷ l) = ap suc (as_many l)

  not_set : (l : List A) (i : ℕ) → is_set_at (none_of l) i ≡ false
  not_set [] i = refl
  not_set (n ∷ l) zero = refl
  not_set (n ∷ l) (suc i) = not_set l i

  pub found : AreFound
  found = fill (unset (none_of items)) (none_of items) (omega arith) (record { alike = as_many items; right = λ i h. absurd (clash (is_set_at (none_of items) i) h (not_set items i)) })
