-- Where a match got no further.
use Rattle.std.specs.Prelude.{ℕ, max, Bool, if◌then◌else◌, ◌&&◌, bytes_eq, codes}
use Rattle.base_language.specs.Language.Text.{Text}
use Rattle.base_language.specs.Language.Expression.{Grammar}
use Rattle.base_language.specs.Language.State.{State, Outcome, Success, Failure, Classes}
use Rattle.base_language.specs.Language.Meaning.{Does, Task, str, insens, range, slice, skip, call, other, pos_pred, neg_pred, push, restore, seq, seq_first, seq_second, left, right, opt, opt_none, rep_none, turn, turn_none, rep_exact, rep_max, rep_min_max, skips, atomic, compound_atomic, between, gives_token, seen_from, rep, rep_once, rep_min, push_literal, tag}

-- the position of a call if it counts, since it failed and gives tokens to a mode other than Atomic
abbrev pub place_of : Bool → State → Outcome → ℕ
place_of b s (Success t us) = 0
place_of b s Failure = if b then s.position else 0

abbrev pub is_eoi : Text → Bool
is_eoi n = bytes_eq n (codes "EOI")

-- the greatest such position in a derivation
abbrev pub furthest : {g : Grammar} {classes : Classes} {k : Task} {s : State} {o : Outcome}
    → Does g classes k s o → ℕ
furthest str = 0
furthest insens = 0
furthest range = 0
furthest slice = 0
furthest skip = 0
furthest (call {m = m} {s = s} {o = o} {r = r} h d) =
    max (place_of (seen_from m && gives_token r.type_of m) s o) (furthest d)
furthest (other {m = m} {n = n} {s = s} {o = o} h b) = place_of (seen_from m && is_eoi n) s o
furthest (pos_pred d) = furthest d
furthest (neg_pred d) = furthest d
furthest (push d) = furthest d
furthest push_literal = 0
furthest (tag d) = furthest d
furthest (restore d) = furthest d
furthest (seq a k b) = max (furthest a) (max (furthest k) (furthest b))
furthest (seq_first a) = furthest a
furthest (seq_second a k b) = max (furthest a) (max (furthest k) (furthest b))
furthest (left a) = furthest a
furthest (right a b) = max (furthest a) (furthest b)
furthest (opt a) = furthest a
furthest (opt_none a) = furthest a
furthest (rep a b) = max (furthest a) (furthest b)
furthest (rep_none a) = furthest a
furthest (turn k a b) = max (furthest k) (max (furthest a) (furthest b))
furthest (turn_none k a) = max (furthest k) (furthest a)
furthest (rep_once d) = furthest d
furthest (rep_exact d) = furthest d
furthest (rep_min d) = furthest d
furthest (rep_max d) = furthest d
furthest (rep_min_max d) = furthest d
furthest (skips d) = furthest d
furthest atomic = 0
furthest compound_atomic = 0
furthest between = 0
