-- Sets that are known.
use Rattle.std.proofs.Common.{◌≡◌, refl, sym, ◌∙◌, ap, ap₂, subst, ℕ, ◌+◌, ◌*◌, ◌≤◌, ◌&&◌, List, [], ◌∷◌, ◌++◌, Bool, true, false, inl, inr, arith, eqb-true, get_or, length, map, nat_eq, nat_lt, if◌then◌else◌}
use Rattle.std.proofs.Math.ListN.{get_or-append}
use Rattle.std.proofs.lemmas.Bool.{and_parts, cases_lt}
use Rattle.std.proofs.lemmas.List.{length-append}
use Rattle.std.specs.Cmp.Lexicographic.{pointwise}
use Rattle.matcher_code.specs.Lists.{is_covered}
use Rattle.matcher_code.specs.declared.code.Code.{Code}
use Rattle.matcher_code.specs.Reading.{no_characters, wide_len}
use Rattle.matcher_code.specs.Sets.{KeepsSets}
use Rattle.matcher_compiler.specs.declared.sets.KnownSet.{KnownSet}
use Rattle.matcher_compiler.specs.Sets.{AreKnownIn, IsKnownIn}
use Rattle.matcher_compiler.proofs.Growing.{last_of}

same_range : (x y : ℕ × ℕ) → (nat_eq x.0 y.0 && nat_eq x.1 y.1) ≡ true → x ≡ y
same_range x y e =
    let k = and_parts (nat_eq x.0 y.0) (nat_eq x.1 y.1) e in
    ap₂ (λ a b. (a, b)) (eqb-true x.0 y.0 k.0) (eqb-true x.1 y.1 k.1)

pub same_ranges : (xs ys : List (ℕ × ℕ)) → pointwise (λ x y. nat_eq x.0 y.0 && nat_eq x.1 y.1) xs ys ≡ true → xs ≡ ys
same_ranges [] [] e = refl
same_ranges [] (y ∷ ys) e = cc
same_ranges (x ∷ xs) [] e = cc
same_ranges (x ∷ xs) (y ∷ ys) e =
    let k = and_parts (nat_eq x.0 y.0 && nat_eq x.1 y.1) (pointwise (λ x y. nat_eq x.0 y.0 && nat_eq x.1 y.1) xs ys) e in
    ap₂ (λ a b. a ∷ b) (same_range x y k.0) (same_ranges xs ys k.1)

-- a program with the same byte sets and ranges
pub same_sets : (old new : Code) → new.byte_sets.items ≡ old.byte_sets.items → new.ranges.items ≡ old.ranges.items → KeepsSets old new
same_sets old new e f set b bs h k =
    ap₂ (λ byte_sets ranges. if nat_lt 4 (get_or byte_sets (set * 256 + b) 0) then wide_len (get_or (map (λ v. is_covered v.ranges.items) ranges) set no_characters) (b ∷ bs) else get_or byte_sets (set * 256 + b) 0) e f

-- a program with more sets
known_on : (old new : Code) → length old.ranges.items ≤ length new.ranges.items → KeepsSets old new → (x : KnownSet)
    → IsKnownIn old x.number x.ranges.items → IsKnownIn new x.number x.ranges.items
known_on old new l keeps x y = record { within = omega (arith, l, y.within); is = λ b bs h u. keeps x.number b bs y.within h ∙ y.is b bs h u }

pub known_kept : (old new : Code) (xs : List KnownSet) → length old.ranges.items ≤ length new.ranges.items → KeepsSets old new
    → AreKnownIn old xs → AreKnownIn new xs
known_kept old new xs l keeps known i d h = known_on old new l keeps (get_or xs i d) (known i d h)

-- one known set more
pub known_more : (sets : Code) (xs ys : List KnownSet) (x : KnownSet) → ys ≡ xs ++ x ∷ [] → IsKnownIn sets x.number x.ranges.items
    → AreKnownIn sets xs → AreKnownIn sets ys
known_more sets xs ys x e here known i d h = elim (cases_lt i (length xs)) [
  | inl k ↦ subst (λ y. IsKnownIn sets y.number y.ranges.items) (sym (ap (λ t. get_or t i d) e ∙ get_or-append xs (x ∷ []) d i k)) (known i d k)
  | inr k ↦
      let n : length ys ≡ length xs + 1 = ap length e ∙ length-append xs (x ∷ []) in
      let j : i ≡ length xs = omega (arith, h, k, n) in
      subst (λ y. IsKnownIn sets y.number y.ranges.items) (sym (ap (λ m. get_or ys m d) j ∙ (last_of xs ys x d e).1)) here
]

-- a push, which may fail
pub known_pushed : (sets : Code) (xs ys : List KnownSet) (x : KnownSet) (b : Bool) → ys ≡ (if b then xs ++ x ∷ [] else xs)
    → IsKnownIn sets x.number x.ranges.items → AreKnownIn sets xs → AreKnownIn sets ys
known_pushed sets xs ys x true e here known = known_more sets xs ys x e here known
known_pushed sets xs ys x false e here known = subst (AreKnownIn sets) (sym e) known
