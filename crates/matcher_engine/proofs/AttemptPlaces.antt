-- The greatest position of a call that is told, by that from another position on.
use Rattle.std.proofs.Common.{◌≡◌, refl, sym, ◌∙◌, ap, ap₂, ℕ, ◌<◌, ◌≤◌, ◌⊎◌, max, Bool, true, false, not, ◌&&◌, if◌then◌else◌, nat_lt, inl, inr, arith}
use Rattle.std.proofs.lemmas.Bool.{ltb-false, ltb-true}
use Rattle.base_language.specs.Language.Text.{Text}
use Rattle.base_language.specs.Language.Expression.{Grammar}
use Rattle.base_language.specs.Language.State.{State, Outcome, Classes}
use Rattle.base_language.specs.Language.Meaning.{Does, Task, str, insens, range, slice, skip, call, other, pos_pred, neg_pred, push, restore, seq, seq_first, seq_second, left, right, opt, opt_none, rep_none, turn, turn_none, rep_exact, rep_max, rep_min_max, skips, atomic, compound_atomic, between, gives_token, seen_from, rep, rep_once, rep_min, push_literal, tag}
use Rattle.base_language.specs.Language.FurthestFailure.{is_eoi}
use Rattle.matcher_code.specs.Attempts.{Attempts, attempts_at, after_call, has_matched, is_recorded, no_attempt, place_from, told_attempts}

-- a position before the place, and one that is not
abbrev IsReached : ℕ → ℕ → ℕ → Type 0
IsReached p at x = ((at < p) × (x ≡ 0)) ⊎ ((p ≤ at) × (x ≡ at))

reached_as : (p at : ℕ) → IsReached p at (place_from p at)
reached_as p at = go (nat_lt at p) refl
  where
    go : (b : Bool) → nat_lt at p ≡ b → IsReached p at (if b then 0 else at)
    go true e = inl (ltb-true at p e, refl)
    go false e = inr (ltb-false at p e, refl)

greater : (p a b x y z : ℕ) → IsReached p a x → IsReached p b y → IsReached p (max a b) z → max x y ≡ z
greater p a b x y z (inl h) (inl k) (inl l) = omega (arith, h.0, h.1, k.0, k.1, l.0, l.1)
greater p a b x y z (inl h) (inl k) (inr l) = omega (arith, h.0, h.1, k.0, k.1, l.0, l.1)
greater p a b x y z (inl h) (inr k) (inl l) = omega (arith, h.0, h.1, k.0, k.1, l.0, l.1)
greater p a b x y z (inl h) (inr k) (inr l) = omega (arith, h.0, h.1, k.0, k.1, l.0, l.1)
greater p a b x y z (inr h) (inl k) (inl l) = omega (arith, h.0, h.1, k.0, k.1, l.0, l.1)
greater p a b x y z (inr h) (inl k) (inr l) = omega (arith, h.0, h.1, k.0, k.1, l.0, l.1)
greater p a b x y z (inr h) (inr k) (inl l) = omega (arith, h.0, h.1, k.0, k.1, l.0, l.1)
greater p a b x y z (inr h) (inr k) (inr l) = omega (arith, h.0, h.1, k.0, k.1, l.0, l.1)

reached_max : (p a b : ℕ) → max (place_from p a) (place_from p b) ≡ place_from p (max a b)
reached_max p a b =
    greater p a b (place_from p a) (place_from p b) (place_from p (max a b)) (reached_as p a) (reached_as p b) (reached_as p (max a b))

from_start : (at x : ℕ) → IsReached 0 at x → x ≡ at
from_start at x (inl h) = absurd (omega (arith, h.0))
from_start at x (inr h) = h.1

no_position : (p x : ℕ) → IsReached p 0 x → 0 ≡ x
no_position p x (inl h) = sym h.1
no_position p x (inr h) = sym h.1

module _ (p : ℕ) where
  none : 0 ≡ place_from p 0
  none = no_position p (place_from p 0) (reached_as p 0)

  two : (v w x y : ℕ) → v ≡ place_from p x → w ≡ place_from p y → max v w ≡ place_from p (max x y)
  two v w x y e f = ap₂ max e f ∙ reached_max p x y

  three : (u v w x y z : ℕ) → u ≡ place_from p x → v ≡ place_from p y → w ≡ place_from p z → max u (max v w) ≡ place_from p (max x (max y z))
  three u v w x y z e f h = two u (max v w) x (max y z) e (two v w y z f h)

  called : (b below : Bool) (n : Text) (s : State) (o : Outcome) (v w : Attempts Text) → v.furthest ≡ place_from p w.furthest
      → (told_attempts b below n p s o v).furthest ≡ place_from p (told_attempts b below n 0 s o w).furthest
  called false below n s o v w e = e
  called true below n s o v w e = go (is_recorded below (has_matched o))
    where
      go : (t : Bool) → (if t then after_call below p n s.position no_attempt v else v).furthest ≡ place_from p (if t then after_call below 0 n s.position no_attempt w else w).furthest
      go true =
          two v.furthest (place_from p s.position) w.furthest s.position e refl
          ∙ ap (λ x. place_from p (max w.furthest x)) (sym (from_start s.position (place_from 0 s.position) (reached_as 0 s.position)))
      go false = e

  pub furthest_from : {g : Grammar} {classes : Classes} (below : Bool) {k : Task} {s : State} {o : Outcome} (d : Does g classes k s o) → (attempts_at below p d).furthest ≡ place_from p (attempts_at below 0 d).furthest
  furthest_from below str = none
  furthest_from below insens = none
  furthest_from below range = none
  furthest_from below slice = none
  furthest_from below skip = none
  furthest_from below (call {m = m} {n = n} {s = s} {o = o} {r = r} h d) =
      called (gives_token r.type_of m) below n s o (attempts_at below p d) (attempts_at below 0 d) (furthest_from below d)
  furthest_from below (other {m = m} {n = n} {s = s} {o = o} h b) = called (seen_from m && is_eoi n) below n s o no_attempt no_attempt none
  furthest_from below (pos_pred d) = furthest_from below d
  furthest_from below (neg_pred d) = furthest_from (not below) d
  furthest_from below (push d) = furthest_from below d
  furthest_from below push_literal = none
  furthest_from below (tag d) = furthest_from below d
  furthest_from below (restore d) = furthest_from below d
  furthest_from below (seq a k b) =
      three (attempts_at below p a).furthest (attempts_at below p k).furthest (attempts_at below p b).furthest (attempts_at below 0 a).furthest (attempts_at below 0 k).furthest (attempts_at below 0 b).furthest (furthest_from below a) (furthest_from below k) (furthest_from below b)
  furthest_from below (seq_first a) = furthest_from below a
  furthest_from below (seq_second a k b) =
      three (attempts_at below p a).furthest (attempts_at below p k).furthest (attempts_at below p b).furthest (attempts_at below 0 a).furthest (attempts_at below 0 k).furthest (attempts_at below 0 b).furthest (furthest_from below a) (furthest_from below k) (furthest_from below b)
  furthest_from below (left a) = furthest_from below a
  furthest_from below (right a b) = two (attempts_at below p a).furthest (attempts_at below p b).furthest (attempts_at below 0 a).furthest (attempts_at below 0 b).furthest (furthest_from below a) (furthest_from below b)
  furthest_from below (opt a) = furthest_from below a
  furthest_from below (opt_none a) = furthest_from below a
  furthest_from below (rep a b) = two (attempts_at below p a).furthest (attempts_at below p b).furthest (attempts_at below 0 a).furthest (attempts_at below 0 b).furthest (furthest_from below a) (furthest_from below b)
  furthest_from below (rep_none a) = furthest_from below a
  furthest_from below (turn k a b) =
      three (attempts_at below p k).furthest (attempts_at below p a).furthest (attempts_at below p b).furthest (attempts_at below 0 k).furthest (attempts_at below 0 a).furthest (attempts_at below 0 b).furthest (furthest_from below k) (furthest_from below a) (furthest_from below b)
  furthest_from below (turn_none k a) = two (attempts_at below p k).furthest (attempts_at below p a).furthest (attempts_at below 0 k).furthest (attempts_at below 0 a).furthest (furthest_from below k) (furthest_from below a)
  furthest_from below (rep_once d) = furthest_from below d
  furthest_from below (rep_exact d) = furthest_from below d
  furthest_from below (rep_min d) = furthest_from below d
  furthest_from below (rep_max d) = furthest_from below d
  furthest_from below (rep_min_max d) = furthest_from below d
  furthest_from below (skips d) = furthest_from below d
  furthest_from below atomic = none
  furthest_from below compound_atomic = none
  furthest_from below between = none

-- a run that is asked at the greatest position finds that
pub asked_there : (p f x : ℕ) → x ≡ place_from p f → x ≡ p → x ≡ f
asked_there p f x e h = go (place_from p f) (reached_as p f) e
  where
    go : (y : ℕ) → IsReached p f y → x ≡ y → x ≡ f
    go y (inl k) d = absurd (omega (arith, k.0, k.1, d, h))
    go y (inr k) d = d ∙ k.1

-- so does the third run, if each is asked where the one before has found it
pub asked_thrice : (p f q r x : ℕ) → q ≡ place_from p f → r ≡ place_from q f → x ≡ place_from r f → (x ≡ f) × (x ≡ r)
asked_thrice p f q r x a b c = go (place_from p f) (place_from q f) (place_from r f) (reached_as p f) (reached_as q f) (reached_as r f) a b c
  where
    go : (u v w : ℕ) → IsReached p f u → IsReached q f v → IsReached r f w → q ≡ u → r ≡ v → x ≡ w → (x ≡ f) × (x ≡ r)
    go u v w (inl h) (inl k) l d e g = absurd (omega (arith, h.0, h.1, k.0, k.1, d))
    go u v w (inl h) (inr k) (inl l) d e g = absurd (omega (arith, k.1, l.0, e))
    go u v w (inl h) (inr k) (inr l) d e g = (g ∙ l.1, omega (arith, k.1, l.1, e, g))
    go u v w (inr h) (inl k) l d e g = absurd (omega (arith, h.1, k.0, d))
    go u v w (inr h) (inr k) (inl l) d e g = absurd (omega (arith, k.1, l.0, e))
    go u v w (inr h) (inr k) (inr l) d e g = (g ∙ l.1, omega (arith, k.1, l.1, e, g))
