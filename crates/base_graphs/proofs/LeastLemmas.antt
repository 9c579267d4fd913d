-- Flags that are set one by one.
use Rattle.std.proofs.Common.{◌≡◌, ℕ, zero, suc, ◌<◌, ◌⊎◌, inl, inr, List, [], ◌∷◌, Option, Some, Bool, true, false, slice_get, length, refl, sym, ◌∙◌, ap, subst, arith}
use Rattle.std.proofs.Math.ListN.{set}
use Rattle.base_graphs.specs.Least.{is_set_at, unset, Follows, follows, AreSound, AreClosed}

pub unset_less : (bs : List Bool) (i : ℕ) → i < length bs → is_set_at bs i ≡ false → unset bs ≡ suc (unset (set bs i true))
unset_less [] i h e = absurd (omega arith)
unset_less (false ∷ bs) zero h e = refl
unset_less (true ∷ bs) zero h e = cc
unset_less (false ∷ bs) (suc i) h e = ap suc (unset_less bs i (omega arith) e)
unset_less (true ∷ bs) (suc i) h e = unset_less bs i (omega arith) e

-- what is set after one more is set
pub set_or_one : (bs : List Bool) (i j : ℕ) → is_set_at (set bs i true) j ≡ true → (j ≡ i) ⊎ (is_set_at bs j ≡ true)
set_or_one [] i j h = inr h
set_or_one (b ∷ bs) zero zero h = inl refl
set_or_one (b ∷ bs) zero (suc j) h = inr h
set_or_one (b ∷ bs) (suc i) zero h = inr h
set_or_one (b ∷ bs) (suc i) (suc j) h = elim (set_or_one bs i j h) [ inl e ↦ inl (ap suc e) | inr e ↦ inr e ]

-- what is asked of flags that are read
pub asked_of : (p : List Bool → Bool) (read flags : List Bool) (b c : Bool) → read ≡ flags → b ≡ p read → b ≡ c → p flags ≡ c
asked_of p read flags b c e f h = ap p (sym e) ∙ (sym f ∙ h)

pub item_at : {A : Type 0} (items : List A) (i : ℕ) → i < length items → (a : A) × (slice_get items i ≡ Some a)
item_at [] i h = absurd (omega arith)
item_at (a ∷ items) zero h = (a, refl)
item_at (a ∷ items) (suc i) h = item_at items i (omega arith)

module _ {A : Type 0} (infers : (ℕ → Bool) → A → Bool) (items : List A) (flags : List Bool) where
  pub sound_one : (i : ℕ) (a : A) → slice_get items i ≡ Some a → infers (is_set_at flags) a ≡ true → length (set flags i true) ≡ length flags → AreSound infers items flags → AreSound infers items (set flags i true)
  sound_one i a at f l s = record {
    alike = l ∙ s.alike;
    right = λ j h. elim (set_or_one flags i j h) [ inl e ↦ subst (Follows infers items) (sym e) (follows (is_set_at flags) at f s.right) | inr e ↦ s.right j e ];
  }

-- more flags that are set never unset what follows
abbrev pub IsMonotone : {A : Type 0} → ((ℕ → Bool) → A → Bool) → Type 0
IsMonotone {A = A} infers = (p q : ℕ → Bool) → ((i : ℕ) → p i ≡ true → q i ≡ true) → (a : A) → infers p a ≡ true → infers q a ≡ true

-- what follows is set, where the flags are closed
held : {A : Type 0} (infers : (ℕ → Bool) → A → Bool) (items : List A) (flags : List Bool) → IsMonotone infers → AreClosed infers items flags → {i : ℕ} → Follows infers items i → is_set_at flags i ≡ true
held infers items flags more closed (follows {i = i} {a = a} p at f g) = closed i a at (more p (is_set_at flags) (λ j h. held infers items flags more closed (g j h)) a f)

same_when : (b c : Bool) → (b ≡ true → c ≡ true) → (c ≡ true → b ≡ true) → b ≡ c
same_when true c f g = sym (f refl)
same_when false true f g = g refl
same_when false false f g = refl

some_same : {A : Type 0} (o : Option A) (x y : A) → o ≡ Some x → o ≡ Some y → x ≡ y
some_same o x y e f = let h : Some x ≡ Some y = sym e ∙ f in cc

-- flags that are sound and closed are what follows from them
pub settled : {A : Type 0} (infers : (ℕ → Bool) → A → Bool) (items : List A) (flags : List Bool) → IsMonotone infers → AreSound infers items flags → AreClosed infers items flags → (i : ℕ) (a : A) → slice_get items i ≡ Some a → is_set_at flags i ≡ infers (is_set_at flags) a
settled {A = A} infers items flags more sound closed i a at = same_when (is_set_at flags i) (infers (is_set_at flags) a) (λ h. go (sound.right i h)) (closed i a at)
  where
    go : Follows infers items i → infers (is_set_at flags) a ≡ true
    go (follows {a = b} p is f g) =
        let e : b ≡ a = some_same (slice_get items i) b a is at in
        more p (is_set_at flags) (λ j h. held infers items flags more closed (g j h)) a (subst (λ z. infers p z ≡ true) e f)
