-- The points of code that has that of its parts.
use Rattle.std.proofs.Common.{◌≡◌, refl, subst, ℕ, zero, suc, ◌+◌, ◌<◌, ◌⊎◌, inl, inr, List, [], ◌∷◌, ◌++◌, Bool, length, get_or, arith}
use Rattle.base_language.specs.Language.Text.{Text}
use Rattle.base_language.specs.Language.Expression.{Grammar}
use Rattle.base_language.specs.Language.State.{Classes}
use Rattle.base_language.specs.Language.Meaning.{Task}
use Rattle.matcher_code.specs.Lists.{CodeLists}
use Rattle.matcher_code.specs.Laid as lay
use Rattle.matcher_code.specs.Laid.{AreLaid, IsPart, IsPoint, Lays, Point, no_point}
use Rattle.front_code.specs.Layouts.{AreLaidAll, LaysAll, also, call, choice, done, in_place, leaf, neg_pred, nothing, opt, rep, rep_min_max, rep_once, routine, seq, skips, sub, switched_choice, tight_rep, tried_seq}

-- a point is in a list
data In (p : Point) : List Point → Type 0 where
  here : {xs : List Point} → In p (p ∷ xs)
  later : {x : Point} {xs : List Point} → In p xs → In p (x ∷ xs)

abbrev place_of : {p : Point} {xs : List Point} → In p xs → ℕ
place_of here = 0
place_of (later i) = suc (place_of i)

place_within : {p : Point} {xs : List Point} (i : In p xs) → place_of i < length xs
place_within here = omega arith
place_within (later i) = let h = place_within i in omega (arith, h)

there : {p : Point} {xs : List Point} (i : In p xs) → get_or xs (place_of i) no_point ≡ p
there here = refl
there (later i) = there i

at_place : (xs : List Point) (i : ℕ) → i < length xs → In (get_or xs i no_point) xs
at_place [] i h = absurd (omega (arith, h))
at_place (x ∷ xs) zero h = here
at_place (x ∷ xs) (suc i) h = later (at_place xs i (omega (arith, h)))

in_first : {p : Point} {xs : List Point} (ys : List Point) → In p xs → In p (xs ++ ys)
in_first ys here = here
in_first ys (later i) = later (in_first ys i)

in_second : {p : Point} (xs : List Point) {ys : List Point} → In p ys → In p (xs ++ ys)
in_second [] i = i
in_second (x ∷ xs) i = later (in_second xs i)

behind : (xs : List Point) (x : Point) (ys : List Point) → In x (xs ++ x ∷ ys)
behind xs x ys = in_second xs here

in_either : {p : Point} (xs : List Point) {ys : List Point} → In p (xs ++ ys) → In p xs ⊎ In p ys
in_either [] i = inr i
in_either (x ∷ xs) here = inl here
in_either (x ∷ xs) (later i) = elim (in_either xs i) [ inl a ↦ inl (later a) | inr b ↦ inr b ]

abbrev point : Task → ℕ → ℕ → ℕ → ℕ → Point
point k l n w r = record { task = k; label = l; next = n; on_fail = w; rank = r }

abbrev is_point : {k : Task} {l n w r : ℕ} {xs : List Point} → In (point k l n w r) xs → IsPoint xs k l n w
is_point {r = r} i = record { place = place_of i; rank = r; within = place_within i; is = there i }

is_part : {k : Task} {l n w r s : ℕ} {xs : List Point} → In (point k l n w r) xs → r < s → IsPart xs s k l n w
is_part i h = record { point = is_point i; lower = h }

module _ (exact : Bool) (g : Grammar) (classes : Classes) (code : CodeLists) (number : Text → ℕ) (called : List Point) where
  -- more than the height of each part
  abbrev height : {k : Task} {l n w : ℕ} → LaysAll exact g classes code number called k l n w → ℕ
  height (leaf f i o p) = 0
  height (nothing t) = 0
  height (call r i j b h e c o p z) = 0
  height (sub r i j h e o p z) = 0
  height (in_place r h e a) = suc (height a)
  height (neg_pred i j o a z) = suc (height a)
  height (seq j k a b c) = suc (height a + (height b + height c))
  height (tried_seq i j k z o a b c p) = suc (height a + (height b + height c))
  height (choice j i k h e a o b) = suc (height a + height b)
  height (switched_choice j i k h e a o b) = suc (height a + height b)
  height (opt i h e a) = suc (height a)
  height (tight_rep i t o h e a) = suc (height a)
  height (rep i j k x z h e o p a b c) = suc (height a + height b)
  height (rep_once a) = suc (height a)
  height (rep_min_max a) = suc (height a)
  height (skips a) = suc (height a)
  height (routine i j o p z) = 0

  abbrev top : {k : Task} {l n w : ℕ} → LaysAll exact g classes code number called k l n w → Point
  top {k} {l} {n} {w} a = point k l n w (height a)

  -- the points below
  abbrev below : {k : Task} {l n w : ℕ} → LaysAll exact g classes code number called k l n w → List Point
  below (leaf f i o p) = []
  below (nothing t) = []
  below (call r i j b h e c o p z) = []
  below (sub r i j h e o p z) = []
  below (in_place r h e a) = top a ∷ below a
  below (neg_pred i j o a z) = top a ∷ below a
  below (seq j k a b c) = top a ∷ below a ++ (top b ∷ below b ++ top c ∷ below c)
  below (tried_seq i j k z o a b c p) = top a ∷ below a ++ (top b ∷ below b ++ top c ∷ below c)
  below (choice j i k h e a o b) = top a ∷ below a ++ top b ∷ below b
  below (switched_choice j i k h e a o b) = top a ∷ below a ++ top b ∷ below b
  below (opt i h e a) = top a ∷ below a
  below (tight_rep i t o h e a) = top a ∷ below a
  below (rep i j k x z h e o p a b c) = top a ∷ below a ++ top b ∷ below b
  below (rep_once a) = top a ∷ below a
  below (rep_min_max a) = top a ∷ below a
  below (skips a) = top a ∷ below a
  below (routine i j o p z) = []

  module _ (points : List Point) (has : (k : Task) (l n w : ℕ) → IsPoint called k l n w → IsPoint points k l n w) where
    abbrev AreIn : List Point → Type 0
    AreIn xs = (p : Point) → In p xs → In p points

    abbrev IsLaid : Point → Type 0
    IsLaid p = Lays exact g classes code number points p.rank p.task p.label p.next p.on_fail

    laid_top : {k : Task} {l n w : ℕ} (t : LaysAll exact g classes code number called k l n w) → AreIn (below t) → IsLaid (top t)
    laid_top (leaf f i o p) x = lay.leaf f i o p
    laid_top (nothing t) x = lay.nothing t
    laid_top (call r i j b h e c o p z) x = lay.call r i j b h e c o (has _ _ _ _ p) z
    laid_top (sub r i j h e o p z) x = lay.sub r i j h e o (has _ _ _ _ p) z
    laid_top (in_place r h e a) x = lay.in_place r h e (is_part (x (top a) here) (omega arith))
    laid_top (neg_pred i j o a z) x = lay.neg_pred i j o (is_part (x (top a) here) (omega arith)) z
    laid_top (seq j k a b c) x =
        lay.seq j k (is_part (x (top a) here) (omega arith)) (is_part (x (top b) (behind (top a ∷ below a) (top b) (below b ++ top c ∷ below c))) (omega arith))
        (is_part (x (top c) (in_second (top a ∷ below a) (behind (top b ∷ below b) (top c) (below c)))) (omega arith))
    laid_top (tried_seq i j k z o a b c p) x =
        lay.tried_seq i j k z o (is_part (x (top a) here) (omega arith)) (is_part (x (top b) (behind (top a ∷ below a) (top b) (below b ++ top c ∷ below c))) (omega arith))
        (is_part (x (top c) (in_second (top a ∷ below a) (behind (top b ∷ below b) (top c) (below c)))) (omega arith)) p
    laid_top (choice j i k h e a o b) x =
        lay.choice j i k h e (is_part (x (top a) here) (omega arith)) o (is_part (x (top b) (behind (top a ∷ below a) (top b) (below b))) (omega arith))
    laid_top (switched_choice j i k h e a o b) x =
        lay.switched_choice j i k h e (is_part (x (top a) here) (omega arith)) o (is_part (x (top b) (behind (top a ∷ below a) (top b) (below b))) (omega arith))
    laid_top (opt i h e a) x = lay.opt i h e (is_part (x (top a) here) (omega arith))
    laid_top (tight_rep i t o h e a) x = lay.tight_rep i t o h e (is_part (x (top a) here) (omega arith))
    laid_top (rep i j k y z h e o p a b c) x =
        lay.rep i j k y z h e o p (is_part (x (top a) here) (omega arith)) (is_part (x (top b) (behind (top a ∷ below a) (top b) (below b))) (omega arith)) c
    laid_top (rep_once a) x = lay.rep_once (is_part (x (top a) here) (omega arith))
    laid_top (rep_min_max a) x = lay.rep_min_max (is_part (x (top a) here) (omega arith))
    laid_top (skips a) x = lay.skips (is_part (x (top a) here) (omega arith))
    laid_top (routine i j o p z) x = lay.routine i j o (has _ _ _ _ p) z

    -- what holds of the points below holds of the top
    with_top : {k : Task} {l n w : ℕ} (t : LaysAll exact g classes code number called k l n w) → (AreIn (below t) → (q : Point) → In q (below t) → IsLaid q)
        → AreIn (top t ∷ below t) → (q : Point) → In q (top t ∷ below t) → IsLaid q
    with_top t ih x q here = laid_top t (λ p i. x p (later i))
    with_top t ih x q (later i) = ih (λ p z. x p (later z)) q i

    -- the points of two lists
    of_two : (xs ys : List Point) → (AreIn xs → (q : Point) → In q xs → IsLaid q) → (AreIn ys → (q : Point) → In q ys → IsLaid q)
        → AreIn (xs ++ ys) → (q : Point) → In q (xs ++ ys) → IsLaid q
    of_two xs ys a b x q i = elim (in_either xs i) [
      | inl z ↦ a (λ p y. x p (in_first ys y)) q z
      | inr z ↦ b (λ p y. x p (in_second xs y)) q z
    ]

    laid_below : {k : Task} {l n w : ℕ} (t : LaysAll exact g classes code number called k l n w) → AreIn (below t) → (q : Point) → In q (below t) → IsLaid q
    laid_below (leaf f i o p) x q z = elim z [ ]
    laid_below (nothing t) x q z = elim z [ ]
    laid_below (call r i j b h e c o p y) x q z = elim z [ ]
    laid_below (sub r i j h e o p y) x q z = elim z [ ]
    laid_below (in_place r h e a) x q y = with_top a (laid_below a) x q y
    laid_below (neg_pred i j o a z) x q y = with_top a (laid_below a) x q y
    laid_below (seq j k a b c) x q y = of_two (top a ∷ below a) (top b ∷ below b ++ top c ∷ below c) (with_top a (laid_below a))
        (of_two (top b ∷ below b) (top c ∷ below c) (with_top b (laid_below b)) (with_top c (laid_below c))) x q y
    laid_below (tried_seq i j k z o a b c p) x q y = of_two (top a ∷ below a) (top b ∷ below b ++ top c ∷ below c) (with_top a (laid_below a))
        (of_two (top b ∷ below b) (top c ∷ below c) (with_top b (laid_below b)) (with_top c (laid_below c))) x q y
    laid_below (choice j i k h e a o b) x q y = of_two (top a ∷ below a) (top b ∷ below b) (with_top a (laid_below a)) (with_top b (laid_below b)) x q y
    laid_below (switched_choice j i k h e a o b) x q y = of_two (top a ∷ below a) (top b ∷ below b) (with_top a (laid_below a)) (with_top b (laid_below b)) x q y
    laid_below (opt i h e a) x q y = with_top a (laid_below a) x q y
    laid_below (tight_rep i t o h e a) x q y = with_top a (laid_below a) x q y
    laid_below (rep i j k y z h e o p a b c) x q v = of_two (top a ∷ below a) (top b ∷ below b) (with_top a (laid_below a)) (with_top b (laid_below b)) x q v
    laid_below (rep_once a) x q y = with_top a (laid_below a) x q y
    laid_below (rep_min_max a) x q y = with_top a (laid_below a) x q y
    laid_below (skips a) x q y = with_top a (laid_below a) x q y
    laid_below (routine i j o p y) x q z = elim z [ ]

  -- all points
  abbrev all_points : {ps : List Point} → AreLaidAll exact g classes code number called ps → List Point
  all_points done = []
  all_points (also t d) = top t ∷ below t ++ all_points d

  -- each point of the list is among them, with another rank
  has_point : {ps : List Point} (d : AreLaidAll exact g classes code number called ps) (i : ℕ) → i < length ps
      → let p = get_or ps i no_point in (r : ℕ) × In (point p.task p.label p.next p.on_fail r) (all_points d)
  has_point done i h = absurd (omega (arith, h))
  has_point (also t d) zero h = (height t, here)
  has_point (also t d) (suc i) h = let x = has_point d i (omega (arith, h)) in (x.0, in_second (top t ∷ below t) x.1)

  has_points : {ps : List Point} (d : AreLaidAll exact g classes code number called ps) (k : Task) (l n w : ℕ) → IsPoint ps k l n w → IsPoint (all_points d) k l n w
  has_points d k l n w p =
      let x = has_point d p.place p.within in
      is_point (subst (λ q. In (point q.task q.label q.next q.on_fail x.0) (all_points d)) p.is x.1)

  module _ (points : List Point) (has : (k : Task) (l n w : ℕ) → IsPoint called k l n w → IsPoint points k l n w) where
    laid_in : {ps : List Point} (d : AreLaidAll exact g classes code number called ps) → AreIn points has (all_points d) → (q : Point) → In q (all_points d) → IsLaid points has q
    laid_in done x q z = elim z [ ]
    laid_in (also t d) x q z = of_two points has (top t ∷ below t) (all_points d) (with_top points has t (laid_below points has t)) (laid_in d) x q z

  pub whole_code : AreLaidAll exact g classes code number called called
      → (points : List Point) × AreLaid exact g classes code number points × ((k : Task) (l n w : ℕ) → IsPoint called k l n w → IsPoint points k l n w)
  whole_code d =
      let points = all_points d in
      let has = has_points d in (
        points,
        λ k l n w p. let q = at_place points p.place p.within in
            subst (λ r. IsLaid points has r) p.is (laid_in points has d (λ r i. i) (get_or points p.place no_point) q),
        has,
      )
