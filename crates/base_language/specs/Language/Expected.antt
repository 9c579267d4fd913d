-- The expected set at a position: names of calls that would have let a match get further.
use Rattle.std.specs.Prelude.{ℕ, List, [], ◌∷◌, ◌++◌, Bool, if◌then◌else◌, ◌&&◌, nat_eq}
use Rattle.base_language.specs.Language.Text.{Text}
use Rattle.base_language.specs.Language.Expression.{Grammar}
use Rattle.base_language.specs.Language.State.{State, Outcome, Success, Failure, Classes}
use Rattle.base_language.specs.Language.Meaning.{Does, Task, str, insens, range, slice, skip, call, other, pos_pred, neg_pred, push, restore, seq, seq_first, seq_second, left, right, opt, opt_none, rep_none, turn, turn_none, rep_exact, rep_max, rep_min_max, skips, atomic, compound_atomic, between, gives_token, seen_from, rep, rep_once, rep_min, push_literal, tag}
use Rattle.base_language.specs.Language.FurthestFailure.{furthest, is_eoi}

-- a call that counts and fails at the position adds its name, in place of the names added within it; any
-- other call keeps the names added within it
abbrev pub told : Bool → Text → ℕ → State → Outcome → List Text → List Text
told counts n place s (Success t us) within = within
told counts n place s Failure within =
    if counts && nat_eq s.position place then n ∷ [] else within

-- the names that are expected at a position, in the order of their calls; none below a `!`
abbrev pub expected_at : {g : Grammar} {classes : Classes} {k : Task} {s : State} {o : Outcome}
    → ℕ → Does g classes k s o → List Text
expected_at place str = []
expected_at place insens = []
expected_at place range = []
expected_at place slice = []
expected_at place skip = []
expected_at place (call {m = m} {n = n} {s = s} {o = o} {r = r} h d) =
    told (seen_from m && gives_token r.type_of m) n place s o (expected_at place d)
expected_at place (other {m = m} {n = n} {s = s} {o = o} h b) =
    told (seen_from m && is_eoi n) n place s o []
expected_at place (pos_pred d) = expected_at place d
expected_at place (neg_pred d) = []
expected_at place (push d) = expected_at place d
expected_at place push_literal = []
expected_at place (tag d) = expected_at place d
expected_at place (restore d) = expected_at place d
expected_at place (seq a k b) = expected_at place a ++ (expected_at place k ++ expected_at place b)
expected_at place (seq_first a) = expected_at place a
expected_at place (seq_second a k b) = expected_at place a ++ (expected_at place k ++ expected_at place b)
expected_at place (left a) = expected_at place a
expected_at place (right a b) = expected_at place a ++ expected_at place b
expected_at place (opt a) = expected_at place a
expected_at place (opt_none a) = expected_at place a
expected_at place (rep a b) = expected_at place a ++ expected_at place b
expected_at place (rep_none a) = expected_at place a
expected_at place (turn k a b) = expected_at place k ++ (expected_at place a ++ expected_at place b)
expected_at place (turn_none k a) = expected_at place k ++ expected_at place a
expected_at place (rep_once d) = expected_at place d
expected_at place (rep_exact d) = expected_at place d
expected_at place (rep_min d) = expected_at place d
expected_at place (rep_max d) = expected_at place d
expected_at place (rep_min_max d) = expected_at place d
expected_at place (skips d) = expected_at place d
expected_at place atomic = []
expected_at place compound_atomic = []
expected_at place between = []

-- the names that are expected at the furthest position; none if all failures there were below a `!`
abbrev pub expected : {g : Grammar} {classes : Classes} {k : Task} {s : State} {o : Outcome}
    → Does g classes k s o → List Text
expected d = expected_at (furthest d) d
