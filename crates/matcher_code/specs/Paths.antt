-- Where in the grammar a match failed: the calls that are open where a name is expected.
use Rattle.std.specs.Prelude.{ℕ, List, [], ◌∷◌, ◌++◌, Bool, true, false, if◌then◌else◌, ◌&&◌, map, nat_eq}
use Rattle.base_language.specs.Language.Text.{Text}
use Rattle.base_language.specs.Language.Expression.{Grammar}
use Rattle.base_language.specs.Language.State.{State, Outcome, Success, Failure, Classes}
use Rattle.base_language.specs.Language.Meaning.{Does, Task, str, insens, range, slice, skip, call, other, pos_pred, neg_pred, push, restore, seq, seq_first, seq_second, left, right, opt, opt_none, rep_none, turn, turn_none, rep_exact, rep_max, rep_min_max, skips, atomic, compound_atomic, between, gives_token, seen_from, rep, rep_once, rep_min, push_literal, tag}
use Rattle.base_language.specs.Language.FurthestFailure.{is_eoi}

-- calls within one another, the outermost first: of each its name, and the position where it begins
abbrev pub Path : Type 0
Path = List (Text × ℕ)

-- paths within a call
abbrev pub within_call : Text → State → List Path → List Path
within_call n s paths = map (λ p. (n, s.position) ∷ p) paths

-- a call that counts and fails at the position is a path, in place of those within it; any other call that
-- counts is open in those within it
abbrev pub told_paths : Bool → Text → ℕ → State → Outcome → List Path → List Path
told_paths false n place s o paths = paths
told_paths true n place s (Success t us) paths = within_call n s paths
told_paths true n place s Failure paths =
    if nat_eq s.position place then ((n, s.position) ∷ []) ∷ [] else within_call n s paths

-- the open calls where names are expected at a position, in the order of their calls; none below a `!`
abbrev pub paths_at : {g : Grammar} {classes : Classes} {k : Task} {s : State} {o : Outcome}
    → ℕ → Does g classes k s o → List Path
paths_at place str = []
paths_at place insens = []
paths_at place range = []
paths_at place slice = []
paths_at place skip = []
paths_at place (call {m = m} {n = n} {s = s} {o = o} {r = r} h d) =
    told_paths (seen_from m && gives_token r.type_of m) n place s o (paths_at place d)
paths_at place (other {m = m} {n = n} {s = s} {o = o} h b) =
    told_paths (seen_from m && is_eoi n) n place s o []
paths_at place (pos_pred d) = paths_at place d
paths_at place (neg_pred d) = []
paths_at place (push d) = paths_at place d
paths_at place push_literal = []
paths_at place (tag d) = paths_at place d
paths_at place (restore d) = paths_at place d
paths_at place (seq a k b) = paths_at place a ++ (paths_at place k ++ paths_at place b)
paths_at place (seq_first a) = paths_at place a
paths_at place (seq_second a k b) = paths_at place a ++ (paths_at place k ++ paths_at place b)
paths_at place (left a) = paths_at place a
paths_at place (right a b) = paths_at place a ++ paths_at place b
paths_at place (opt a) = paths_at place a
paths_at place (opt_none a) = paths_at place a
paths_at place (rep a b) = paths_at place a ++ paths_at place b
paths_at place (rep_none a) = paths_at place a
paths_at place (turn k a b) = paths_at place k ++ (paths_at place a ++ paths_at place b)
paths_at place (turn_none k a) = paths_at place k ++ paths_at place a
paths_at place (rep_once d) = paths_at place d
paths_at place (rep_exact d) = paths_at place d
paths_at place (rep_min d) = paths_at place d
paths_at place (rep_max d) = paths_at place d
paths_at place (rep_min_max d) = paths_at place d
paths_at place (skips d) = paths_at place d
paths_at place atomic = []
paths_at place compound_atomic = []
paths_at place between = []

-- the name of the innermost call
abbrev pub last_name : Path → Text
last_name [] = []
last_name (c ∷ []) = c.0
last_name (c ∷ d ∷ p) = last_name (d ∷ p)
