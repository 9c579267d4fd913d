-- Flags that are unset.
use Rattle.std.proofs.Common.{◌≡◌, ℕ, zero, suc, ◌+◌, ◌<◌, ◌≤◌, List, [], ◌∷◌, ◌++◌, Bool, true, false, length, drop-cons, drop, slice_index, refl, sym, ◌∙◌, ap, subst, arith}
use Rattle.std.specs.List.{Contains}
use Rattle.std.proofs.Math.ListN.{set}
use Rattle.std.proofs.lemmas.List.Elements.{Contains-append_left}
use Rattle.base_graphs.specs.Least.{is_set_at}
use Rattle.front_validator.specs.Flags.{AreOnlySet}
use Rattle.front_validator.proofs.NoneWalks.{at_end}
use Rattle.front_validator.proofs.SearchLemmas.{Compared, same_place, other_place, compared}

-- a flag that is unset, and another one
pub set_off : (bs : List Bool) (i : ℕ) → is_set_at (set bs i false) i ≡ false
set_off [] i = refl
set_off (b ∷ bs) zero = refl
set_off (b ∷ bs) (suc i) = set_off bs i

pub set_other : (bs : List Bool) (i : ℕ) (b : Bool) (k : ℕ) → (k ≡ i → ⊥) → is_set_at (set bs i b) k ≡ is_set_at bs k
set_other [] i b k d = refl
set_other (a ∷ bs) zero b zero d = absurd (d refl)
set_other (a ∷ bs) zero b (suc k) d = refl
set_other (a ∷ bs) (suc i) b zero d = refl
set_other (a ∷ bs) (suc i) b (suc k) d = set_other bs i b k (λ e. d (ap suc e))

-- once more is noted
pub noted_more : (noted : List ℕ) (i : ℕ) (flags : List Bool) → AreOnlySet noted flags → AreOnlySet (noted ++ i ∷ []) flags
noted_more noted i flags f k out = f k (λ h. out (Contains-append_left noted (i ∷ []) k h))

-- what is noted is set
pub noted_set : (noted : List ℕ) (i : ℕ) (flags : List Bool) → AreOnlySet noted flags → AreOnlySet (noted ++ i ∷ []) (set flags i true)
noted_set noted i flags f k out = go (compared k i)
  where
    go : Compared k i → is_set_at (set flags i true) k ≡ false
    go (same_place e) = absurd (out (subst (λ z. Contains (noted ++ i ∷ []) z) (sym e) (at_end noted i)))
    go (other_place d) = set_other flags i true k d ∙ noted_more noted i flags f k out

-- what is noted first is unset, or no flag
not_first : (i : ℕ) (noted : List ℕ) (k : ℕ) → (Contains noted k → ⊥) → (k ≡ i → ⊥) → Contains (i ∷ noted) k → ⊥
not_first i noted k out d (zero, l, e) = d (sym e)
not_first i noted k out d (suc n, l, e) = out (n, omega arith, e)

past : (bs : List Bool) (i : ℕ) → length bs ≤ i → is_set_at bs i ≡ false
past [] i h = refl
past (b ∷ bs) zero h = absurd (omega arith)
past (b ∷ bs) (suc i) h = past bs i (omega arith)

pub noted_less : (i : ℕ) (noted : List ℕ) (flags : List Bool) → AreOnlySet (i ∷ noted) flags → AreOnlySet noted (set flags i false)
noted_less i noted flags f k out = go (compared k i)
  where
    go : Compared k i → is_set_at (set flags i false) k ≡ false
    go (same_place e) = subst (λ z. is_set_at (set flags i false) z ≡ false) (sym e) (set_off flags i)
    go (other_place d) = set_other flags i false k d ∙ f k (not_first i noted k out d)

pub noted_past : (i : ℕ) (noted : List ℕ) (flags : List Bool) → length flags ≤ i → AreOnlySet (i ∷ noted) flags → AreOnlySet noted flags
noted_past i noted flags l f k out = go (compared k i)
  where
    go : Compared k i → is_set_at flags k ≡ false
    go (same_place e) = subst (λ z. is_set_at flags z ≡ false) (sym e) (past flags i l)
    go (other_place d) = f k (not_first i noted k out d)

opened : (noted : List ℕ) (j : ℕ) → j < length noted → drop j noted ≡ slice_index noted j ∷ drop (j + 1) noted
opened noted j l = drop-cons noted j 0 l ∙ ap (λ n. slice_index noted j ∷ drop n noted) (let h : suc j ≡ j + 1 = omega arith in h)

-- the first of what is left is unset, or no flag
pub left_less : (noted : List ℕ) (j : ℕ) (flags : List Bool) → j < length noted → AreOnlySet (drop j noted) flags → AreOnlySet (drop (j + 1) noted) (set flags (slice_index noted j) false)
left_less noted j flags l f = noted_less (slice_index noted j) (drop (j + 1) noted) flags (subst (λ z. AreOnlySet z flags) (opened noted j l) f)

pub left_past : (noted : List ℕ) (j : ℕ) (flags : List Bool) → j < length noted → length flags ≤ slice_index noted j → AreOnlySet (drop j noted) flags → AreOnlySet (drop (j + 1) noted) flags
left_past noted j flags l p f = noted_past (slice_index noted j) (drop (j + 1) noted) flags p (subst (λ z. AreOnlySet z flags) (opened noted j l) f)
