-- Copies that come back to a walk may be left out.
use Rattle.std.proofs.Common.{◌≡◌, ℕ, zero, suc, ◌+◌, ◌*◌, ◌<◌, ◌/◌, ◌%◌, List, [], ◌∷◌, ◌++◌, replicate, Option, Some, None, refl, sym, ◌∙◌, ap, subst, arith}
use Rattle.front_stack_domain.specs.Stack.{AbstractStack}
use Rattle.front_stack_domain.specs.Reading.{Reading, Copy, Required, Optional, Endless, Walk, onward, walk, tried}
use Rattle.front_stack_loops.specs.Following.{times}
use Rattle.front_stack_domain.specs.Reports.{turn_start, next}
use Rattle.front_stack_domain.specs.Stack.{In}

pub times_more : {A : Type 0} (m n : ℕ) (f : A → A) (a : A) → times (m + n) f a ≡ times n f (times m f a)
times_more zero n f a = let e : zero + n ≡ n = omega arith in ap (λ k. times k f a) e
times_more (suc m) n f a = let e : suc m + n ≡ suc (m + n) = omega arith in subst (λ k. times k f a ≡ times n f (times m f (f a))) (sym e) (times_more m n f (f a))

pub times_again : {A : Type 0} (k p n : ℕ) (f : A → A) (a : A) → times p f a ≡ a → times (k * p + n) f a ≡ times n f a
times_again zero p n f a e = let q : zero * p + n ≡ n = omega arith in ap (λ k. times k f a) q
times_again (suc k) p n f a e =
    let q : suc k * p + n ≡ p + (k * p + n) = omega arith in
    subst (λ j. times j f a ≡ times n f a) (sym q) (times_more p (k * p + n) f a ∙ ap (times (k * p + n) f) e ∙ times_again k p n f a e)

-- what is left of n copies, once p of them have come back to where they began
pub times_left : {A : Type 0} (p n : ℕ) (f : A → A) (a : A) → 0 < p → times p f a ≡ a → times n f a ≡ times (n % p) f a
times_left p n f a h e = let q : n ≡ (n / p) * p + n % p = omega arith in subst (λ j. times j f a ≡ times (n % p) f a) (sym q) (times_again (n / p) p (n % p) f a e)

module _ (limit : ℕ) (step : AbstractStack → Reading) where
  abbrev pub one_on : Copy → Walk → Walk
  one_on c w = onward limit step c w.here w

  pub walk_times : (n : ℕ) (c : Copy) (w : Walk) → walk limit step (replicate n c) w ≡ times n (one_on c) w
  walk_times zero c w = refl
  walk_times (suc n) c w = walk_times n c (one_on c w)

  pub walk_both : (cs ds : List Copy) (w : Walk) → walk limit step (cs ++ ds) w ≡ walk limit step ds (walk limit step cs w)
  walk_both [] ds w = refl
  walk_both (c ∷ cs) ds w = walk_both cs ds (one_on c w)

  pub stuck : (c : Copy) (i : ℕ) (w : Walk) → w.here ≡ None → (times i (one_on c) w).here ≡ None
  stuck c zero w e = e
  stuck c (suc i) w e = let h : one_on c w ≡ w = ap (λ q. onward limit step c q w) e in subst (λ v. (times i (one_on c) v).here ≡ None) (sym h) (stuck c i w e)

  unit_next : (q : Option AbstractStack) → next q (λ a. Some a) ≡ q
  unit_next None = refl
  unit_next (Some a) = refl

  -- a required copy starts where the walk over the copies before it stands
  pub starts_where : (n i : ℕ) (cs : List Copy) (w : Walk) → i < n → next w.here (λ a. turn_start step (replicate n Required ++ cs) i a) ≡ (times i (one_on Required) w).here
  starts_where zero i cs w h = absurd (omega arith)
  starts_where (suc n) zero cs w h = unit_next w.here
  starts_where (suc n) (suc i) cs w h = go w.here refl (λ w. starts_where n i cs w (omega arith))
    where
      go : (q : Option AbstractStack) → w.here ≡ q → ((w : Walk) → next w.here (λ a. turn_start step (replicate n Required ++ cs) i a) ≡ (times i (one_on Required) w).here)
          → next q (λ a. next (step a).ok (λ b. turn_start step (replicate n Required ++ cs) i b)) ≡ (times i (one_on Required) (onward limit step Required q w)).here
      go None e f = sym (stuck Required i w e)
      go (Some a) e f = f (onward limit step Required (Some a) w)

  -- and an optional one
  pub optional_starts_where : (n i : ℕ) (w : Walk) → i < n → next w.here (λ a. turn_start step (replicate n Optional) i a) ≡ (times i (one_on Optional) w).here
  optional_starts_where zero i w h = absurd (omega arith)
  optional_starts_where (suc n) zero w h = unit_next w.here
  optional_starts_where (suc n) (suc i) w h = go w.here refl (λ w. optional_starts_where n i w (omega arith))
    where
      go : (q : Option AbstractStack) → w.here ≡ q → ((w : Walk) → next w.here (λ a. turn_start step (replicate n Optional) i a) ≡ (times i (one_on Optional) w).here)
          → next q (λ a. next (tried a (step a)) (λ b. turn_start step (replicate n Optional) i b)) ≡ (times i (one_on Optional) (onward limit step Optional q w)).here
      go None e f = sym (stuck Optional i w e)
      go (Some a) e f = f (onward limit step Optional (Some a) w)

  -- turns that come back start among those that were seen
  pub turns_seen : (u : List AbstractStack) → ((y z : AbstractStack) → In y u → (step y).ok ≡ Some z → In z u) → (i : ℕ) (a b : AbstractStack) → In a u → turn_start step (Endless ∷ []) i a ≡ Some b → In b u
  turns_seen u f zero a b h e = subst (λ x. In x u) (same_some e) h
    where
      same_some : {x y : AbstractStack} → Some x ≡ Some y → x ≡ y
      same_some h = cc
  turns_seen u f (suc i) a b h e = go (step a).ok refl e (λ z k e. turns_seen u f i z b k e)
    where
      go : (q : Option AbstractStack) → (step a).ok ≡ q → next q (λ z. turn_start step (Endless ∷ []) i z) ≡ Some b → ((z : AbstractStack) → In z u → turn_start step (Endless ∷ []) i z ≡ Some b → In b u) → In b u
      go None g e k = cc
      go (Some z) g e k = k z (f a z h g) e
