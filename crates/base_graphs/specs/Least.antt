-- Flags by number, and the least ones that follow from one another.
use Rattle.std.specs.Prelude.{◌≡◌, ℕ, suc, List, [], ◌∷◌, Some, Bool, true, false, unwrap_or, slice_get, length}

-- the flag of a number is set
abbrev pub is_set_at : List Bool → ℕ → Bool
is_set_at flags i = unwrap_or (slice_get flags i) false

-- how many flags are not set
abbrev pub unset : List Bool → ℕ
unset [] = 0
unset (true ∷ bs) = unset bs
unset (false ∷ bs) = suc (unset bs)

module _ {A : Type 0} (infers : (ℕ → Bool) → A → Bool) (items : List A) where
  -- the flag of an item follows, from flags that follow themselves: the least relation
  pub data Follows : ℕ → Type 0 where
    follows : {i : ℕ} {a : A} (p : ℕ → Bool) → slice_get items i ≡ Some a → infers p a ≡ true
        → ((j : ℕ) → p j ≡ true → Follows j) → Follows i

  -- as many flags as items, and each that is set follows
  pub record AreSound (flags : List Bool) : Type 0 where
    pub alike : length flags ≡ length items
    pub right : (i : ℕ) → is_set_at flags i ≡ true → Follows i

  -- a flag that follows from those that are set is set
  abbrev pub IsClosedAt : List Bool → ℕ → Type 0
  IsClosedAt flags i = (a : A) → slice_get items i ≡ Some a → infers (is_set_at flags) a ≡ true
      → is_set_at flags i ≡ true

  abbrev pub AreClosed : List Bool → Type 0
  AreClosed flags = (i : ℕ) → IsClosedAt flags i
