-- The place of a failure stands on a character of the text.
use Rattle.std.proofs.Common.{◌≡◌, ◌⊎◌, inl, inr, refl, ℕ, ◌≤◌, ◌<◌, max, ◌&&◌, Bool, true, false, [], leb, arith}
use Rattle.std.proofs.lemmas.Bool.Decides.{leb_tells}
use Rattle.base_language.specs.Language.Expression.{Grammar}
use Rattle.base_language.specs.Language.State.{Classes, State, Outcome, Success, Failure}
use Rattle.base_language.specs.Language.Text.{Text, IsPosition}
use Rattle.base_language.specs.Language.Meaning.{Does, Task, str, insens, range, slice, skip, call, other, pos_pred, neg_pred, push, restore, seq, seq_first, seq_second, left, right, opt, opt_none, rep_none, turn, turn_none, rep_exact, rep_max, rep_min_max, skips, atomic, compound_atomic, between, seen_from, gives_token, rep, rep_once, rep_min, push_literal, tag}
use Rattle.base_language.specs.Language.FurthestFailure.{furthest, place_of, is_eoi}
use Rattle.base_language.specs.Language.Places.{IsStateIn}
use Rattle.base_language.proofs.TreesAreNested.{fits}

module _ (text : Text) where
  at_start : IsPosition text 0
  at_start = record { front = []; back = text; split = refl; size = refl }

  along : (a b : ℕ) → b ≡ a → IsPosition text a → IsPosition text b
  along a b e p = rw e p

  either : (a b : ℕ) → ((leb a b ≡ true) × (a ≤ b)) ⊎ ((leb a b ≡ false) × (b < a)) → IsPosition text a → IsPosition text b → IsPosition text (max a b)
  either a b (inl h) p q = along b (max a b) (omega (arith, h.1)) q
  either a b (inr h) p q = along a (max a b) (omega (arith, h.1)) p

  greater : (a b : ℕ) → IsPosition text a → IsPosition text b → IsPosition text (max a b)
  greater a b p q = either a b (leb_tells a b) p q

  on : (s : State) → IsStateIn text s → IsPosition text s.position
  on s h = record { front = h.front; back = s.rest; split = h.split; size = h.size }

  of_call : (b : Bool) (s : State) (o : Outcome) → IsStateIn text s → IsPosition text (place_of b s o)
  of_call b s (Success t us) h = at_start
  of_call true s Failure h = on s h
  of_call false s Failure h = at_start

  pub stands_at : {g : Grammar} {classes : Classes} {k : Task} {s : State} {o : Outcome} (d : Does g classes k s o) → IsStateIn text s → IsPosition text (furthest d)
  stands_at str h = at_start
  stands_at insens h = at_start
  stands_at range h = at_start
  stands_at slice h = at_start
  stands_at skip h = at_start
  stands_at (call {m = m} {s = s} {o = o} {r = r} e d) h = greater _ _ (of_call (seen_from m && gives_token r.type_of m) s o h) (stands_at d h)
  stands_at (other {m = m} {n = n} {s = s} {o = o} e b) h = of_call (seen_from m && is_eoi n) s o h
  stands_at (pos_pred d) h = stands_at d h
  stands_at (neg_pred d) h = stands_at d h
  stands_at (push d) h = stands_at d h
  stands_at push_literal h = at_start
  stands_at (tag d) h = stands_at d h
  stands_at (restore d) h = stands_at d h
  stands_at (seq a k b) h =
      let x = fits text a h in let y = fits text k x.0 in
      greater _ _ (stands_at a h) (greater _ _ (stands_at k x.0) (stands_at b y.0))
  stands_at (seq_first a) h = stands_at a h
  stands_at (seq_second a k b) h =
      let x = fits text a h in let y = fits text k x.0 in
      greater _ _ (stands_at a h) (greater _ _ (stands_at k x.0) (stands_at b y.0))
  stands_at (left a) h = stands_at a h
  stands_at (right a b) h = greater _ _ (stands_at a h) (stands_at b h)
  stands_at (opt a) h = stands_at a h
  stands_at (opt_none a) h = stands_at a h
  stands_at (rep a b) h = let x = fits text a h in greater _ _ (stands_at a h) (stands_at b x.0)
  stands_at (rep_none a) h = stands_at a h
  stands_at (turn k a b) h =
      let x = fits text k h in let y = fits text a x.0 in
      greater _ _ (stands_at k h) (greater _ _ (stands_at a x.0) (stands_at b y.0))
  stands_at (turn_none k a) h = let x = fits text k h in greater _ _ (stands_at k h) (stands_at a x.0)
  stands_at (rep_once d) h = stands_at d h
  stands_at (rep_exact d) h = stands_at d h
  stands_at (rep_min d) h = stands_at d h
  stands_at (rep_max d) h = stands_at d h
  stands_at (rep_min_max d) h = stands_at d h
  stands_at (skips d) h = stands_at d h
  stands_at atomic h = at_start
  stands_at compound_atomic h = at_start
  stands_at between h = at_start
