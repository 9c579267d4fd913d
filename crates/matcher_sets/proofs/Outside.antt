-- Parts of ranges that are outside of others.
use Rattle.matcher_code.specs.Lists.{is_covered}
use Rattle.std.proofs.Common.{◌≡◌, refl, sym, ◌∙◌, ap, ap₂, ℕ, zero, suc, ◌+◌, ◌-◌, ◌<◌, ◌≤◌, ◌⊎◌, inl, inr, List, [], ◌∷◌, Bool, true, false, ◌||◌, ◌&&◌, arith, get_or, length, nat_le, take}
use Rattle.std.specs.Prelude.{max, min, not}
use Rattle.std.proofs.Math.Seq.{take-suc}
use Rattle.std.proofs.lemmas.Bool.{and_parts, cases_lt, leb-true}
use Rattle.base_language.specs.Language.Builtins.{is_between}
use Rattle.matcher_sets.proofs.Ranging.{covered-append, or_none}
use Rattle.matcher_sets.specs.Differences.{is_above, is_below}
use Rattle.matcher_sets.specs.Ranges.{Adds, Covers}

same_bool : (a b : Bool) → (a ≡ true → b ≡ true) → (b ≡ true → a ≡ true) → a ≡ b
same_bool true true f h = refl
same_bool true false f h = sym (f refl)
same_bool false true f h = h refl
same_bool false false f h = refl

is_le : (a b : ℕ) → a ≤ b → nat_le a b ≡ true
is_le a b h = grind arith

both : (a b : Bool) → a ≡ true → b ≡ true → (a && b) ≡ true
both a b e f = ap₂ (λ x y. x && y) e f

within : (a b x : ℕ) → is_between a b x ≡ true → (a ≤ x) × (x ≤ b)
within a b x h = let k = and_parts (nat_le a x) (nat_le x b) h in (leb-true a x k.0, leb-true x b k.1)

pub below_is : (l h f x : ℕ) → l < f → is_between l (min h (f - 1)) x ≡ (is_below f x && is_between l h x)
below_is l h f x u = same_bool (is_between l (min h (f - 1)) x) (is_below f x && is_between l h x)
    (λ e. let k = within l (min h (f - 1)) x e in
    both (is_below f x) (is_between l h x) (is_le (suc x) f (omega (arith, k.0, k.1))) (both (nat_le l x) (nat_le x h) (is_le l x k.0) (is_le x h (omega (arith, k.1)))))
    (λ e. let k = and_parts (is_below f x) (is_between l h x) e in
    let b = leb-true (suc x) f k.0 in
    let w = within l h x k.1 in
    both (nat_le l x) (nat_le x (min h (f - 1))) (is_le l x w.0) (is_le x (min h (f - 1)) (omega (arith, b, w.1))))

pub above_is : (l h t x : ℕ) → is_between (max l (t + 1)) h x ≡ (is_above t x && is_between l h x)
above_is l h t x = same_bool (is_between (max l (t + 1)) h x) (is_above t x && is_between l h x)
    (λ e. let k = within (max l (t + 1)) h x e in
    both (is_above t x) (is_between l h x) (is_le (suc t) x (omega (arith, k.0))) (both (nat_le l x) (nat_le x h) (is_le l x (omega (arith, k.0))) (is_le x h k.1)))
    (λ e. let k = and_parts (is_above t x) (is_between l h x) e in
    let b = leb-true (suc t) x k.0 in
    let w = within l h x k.1 in
    both (nat_le (max l (t + 1)) x) (nat_le x h) (is_le (max l (t + 1)) x (omega (arith, b, w.0))) (is_le x h w.1))

-- nothing of the range is there
pub none_below : (l h f x : ℕ) → f ≤ l → (is_below f x && is_between l h x) ≡ false
none_below l h f x u = same_bool (is_below f x && is_between l h x) false
    (λ e. let k = and_parts (is_below f x) (is_between l h x) e in
    let b = leb-true (suc x) f k.0 in
    let w = within l h x k.1 in absurd (omega (arith, b, w.0, u)))
    (λ e. cc)

pub none_above : (l h t x : ℕ) → h ≤ t → (is_above t x && is_between l h x) ≡ false
none_above l h t x u = same_bool (is_above t x && is_between l h x) false
    (λ e. let k = and_parts (is_above t x) (is_between l h x) e in
    let b = leb-true (suc t) x k.0 in
    let w = within l h x k.1 in absurd (omega (arith, b, w.1, u)))
    (λ e. cc)

is_not : (b : Bool) → (b ≡ true → ⊥) → not b ≡ true
is_not true h = absurd (h refl)
is_not false h = refl

of_not : (b : Bool) → not b ≡ true → b ≡ false
of_not true h = cc
of_not false h = refl

or_cases : (a b : Bool) → (a || b) ≡ true → (a ≡ true) ⊎ (b ≡ true)
or_cases true b h = inl refl
or_cases false b h = inr h

or_left : (a b : Bool) → a ≡ true → (a || b) ≡ true
or_left a b e = ap (λ p. p || b) e

or_right : (a b : Bool) → b ≡ true → (a || b) ≡ true
or_right true b e = refl
or_right false b e = e

-- below or above a range, or outside of it
module _ (l h f t x : ℕ) where
  abbrev Below : Bool
  Below = is_below f x && is_between l h x

  abbrev Above : Bool
  Above = is_above t x && is_between l h x

  abbrev Out : Bool
  Out = not (is_between f t x) && is_between l h x

  out_below : Below ≡ true → Out ≡ true
  out_below e =
      let k = and_parts (is_below f x) (is_between l h x) e in
      let b = leb-true (suc x) f k.0 in
      both (not (is_between f t x)) (is_between l h x) (is_not (is_between f t x) (λ w. let z = within f t x w in omega (arith, b, z.0))) k.1

  out_above : Above ≡ true → Out ≡ true
  out_above e =
      let k = and_parts (is_above t x) (is_between l h x) e in
      let b = leb-true (suc t) x k.0 in
      both (not (is_between f t x)) (is_between l h x) (is_not (is_between f t x) (λ w. let z = within f t x w in omega (arith, b, z.1))) k.1

  side : (x < f) ⊎ (f ≤ x) → (t < x) ⊎ (x ≤ t) → is_between f t x ≡ false → is_between l h x ≡ true → (Below || Above) ≡ true
  side (inl u) v out e = or_left Below Above (both (is_below f x) (is_between l h x) (is_le (suc x) f (omega (arith, u))) e)
  side (inr u) (inl v) out e = or_right Below Above (both (is_above t x) (is_between l h x) (is_le (suc t) x (omega (arith, v))) e)
  side (inr u) (inr v) out e =
      let z : is_between f t x ≡ true = both (nat_le f x) (nat_le x t) (is_le f x u) (is_le x t v) in cc

  of_out : Out ≡ true → (Below || Above) ≡ true
  of_out e =
      let k = and_parts (not (is_between f t x)) (is_between l h x) e in
      side (cases_lt x f) (cases_lt t x) (of_not (is_between f t x) k.0) k.1

  pub sides : (Below || Above) ≡ Out
  sides = same_bool (Below || Above) Out (λ e. elim (or_cases Below Above e) [ inl a ↦ out_below a | inr a ↦ out_above a ]) of_out

pub distributes : (p a b : Bool) → (p && (a || b)) ≡ ((p && a) || (p && b))
distributes true a b = refl
distributes false a b = refl

-- two parts were added, one after the other
pub added_twice : (old middle new : List (ℕ × ℕ)) (a b c : ℕ → Bool) → Adds old middle a → Adds middle new b
    → ((x : ℕ) → (a x || b x) ≡ c x) → Adds old new c
added_twice old middle new a b c h k e x l =
    k x l ∙ (ap (λ p. p || b x) (h x l) ∙ (or_assoc (is_covered old x) (a x) (b x) ∙ ap (λ p. is_covered old x || p) (e x)))
  where
    or_assoc : (p q r : Bool) → ((p || q) || r) ≡ (p || (q || r))
    or_assoc true q r = refl
    or_assoc false q r = refl

none_and : (p : Bool) → (p && false) ≡ false
none_and true = refl
none_and false = refl

pub nothing_outside : (p : Bool) → false ≡ (p && false)
nothing_outside p = sym (none_and p)

-- one range more of those that are kept
kept_more : (p a b o n : Bool) → o ≡ (p && a) → n ≡ (o || (p && b)) → n ≡ (p && (a || b))
kept_more p a b o n e f = f ∙ (ap (λ q. q || (p && b)) e ∙ sym (distributes p a b))

-- one range more of those that are left out
left_out_more : (a b r o n : Bool) → o ≡ (not a && r) → n ≡ (not b && o) → n ≡ (not (a || b) && r)
left_out_more a b r o n e f = f ∙ (ap (λ q. not b && q) e ∙ go a b r)
  where
    go : (u v w : Bool) → (not v && (not u && w)) ≡ (not (u || v) && w)
    go true true w = refl
    go true false w = refl
    go false true w = refl
    go false false w = refl

module _ (ranges : List (ℕ × ℕ)) (i : ℕ) (d : ℕ × ℕ) (l : i < length ranges) where
  -- the ranges before the next one, and that
  one_more_range : (x : ℕ) → is_covered (take (i + 1) ranges) x ≡ (is_covered (take i ranges) x || is_between (get_or ranges i d).0 (get_or ranges i d).1 x)
  one_more_range x =
      let r = get_or ranges i d in
      let e : i + 1 ≡ suc i = omega arith in
      ap (λ k. is_covered (take k ranges) x) e ∙ (ap (λ rs. is_covered rs x) (take-suc ranges i d l)
      ∙ (covered-append (take i ranges) (r ∷ []) x ∙ ap (λ b. is_covered (take i ranges) x || b) (or_none (is_between r.0 r.1 x))))

  -- one range more was kept
  pub range_kept : (old new : List (ℕ × ℕ)) (from to : ℕ) → Covers old (λ x. not (is_between from to x) && is_covered (take i ranges) x)
      → Adds old new (λ x. not (is_between from to x) && is_between (get_or ranges i d).0 (get_or ranges i d).1 x)
      → Covers new (λ x. not (is_between from to x) && is_covered (take (i + 1) ranges) x)
  range_kept old new from to h k x l =
      let p = not (is_between from to x) in
      let a = is_covered (take i ranges) x in
      let b = is_between (get_or ranges i d).0 (get_or ranges i d).1 x in
      kept_more p a b (is_covered old x) (is_covered new x) (h x l) (k x l) ∙ ap (λ y. p && y) (sym (one_more_range x))

  -- one range more was left out
  pub range_left_out : (first old new : List (ℕ × ℕ)) → Covers old (λ x. not (is_covered (take i ranges) x) && is_covered first x)
      → Covers new (λ x. not (is_between (get_or ranges i d).0 (get_or ranges i d).1 x) && is_covered old x)
      → Covers new (λ x. not (is_covered (take (i + 1) ranges) x) && is_covered first x)
  range_left_out first old new h k x l =
      let a = is_covered (take i ranges) x in
      let b = is_between (get_or ranges i d).0 (get_or ranges i d).1 x in
      left_out_more a b (is_covered first x) (is_covered old x) (is_covered new x) (h x l) (k x l) ∙ ap (λ y. not y && is_covered first x) (sym (one_more_range x))

pub take_all : (ranges : List (ℕ × ℕ)) (i : ℕ) → length ranges ≤ i → take i ranges ≡ ranges
take_all [] zero h = refl
take_all [] (suc i) h = refl
take_all (r ∷ rs) zero h = absurd (omega (arith, h))
take_all (r ∷ rs) (suc i) h = ap (λ x. r ∷ x) (take_all rs i (omega (arith, h)))
