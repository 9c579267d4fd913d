-- Attempts: the rules that an error of pest names, and the place of that error.
use Rattle.std.specs.Prelude.{ℕ, suc, ◌+◌, ◌==◌, max, List, [], ◌∷◌, ◌++◌, Bool, true, false, if◌then◌else◌, ◌&&◌, length, nat_lt, not}
use Rattle.base_language.specs.Language.Text.{Text}
use Rattle.base_language.specs.Language.Expression.{Grammar}
use Rattle.base_language.specs.Language.State.{State, Outcome, Success, Failure, Classes}
use Rattle.base_language.specs.Language.Meaning.{Does, Task, str, insens, range, slice, skip, call, other, pos_pred, neg_pred, push, restore, seq, seq_first, seq_second, left, right, opt, opt_none, rep_none, turn, turn_none, rep_exact, rep_max, rep_min_max, skips, atomic, compound_atomic, between, gives_token, seen_from, rep, rep_once, rep_min, push_literal, tag}
use Rattle.base_language.specs.Language.FurthestFailure.{is_eoi}

-- rules that are expected, and rules that are not, in the order of their calls, and as often as these are
-- recorded; and the greatest position of such a call
pub record Attempts (A : Type 0) : Type 0 where
  pub furthest : ℕ
  pub positives : List A
  pub negatives : List A

abbrev pub no_attempt : {A : Type 0} → Attempts A
no_attempt = record { furthest = 0; positives = []; negatives = [] }

-- how many rules there are
abbrev pub count : {A : Type 0} → Attempts A → ℕ
count a = length a.positives + length a.negatives

-- the attempts of two parts
abbrev pub append : {A : Type 0} → Attempts A → Attempts A → Attempts A
append a b = record {
  furthest = max a.furthest b.furthest;
  positives = a.positives ++ b.positives;
  negatives = a.negatives ++ b.negatives;
}

-- with one more rule, which below a `!` is not expected
abbrev pub with_rule : {A : Type 0} → Bool → A → Attempts A → Attempts A
with_rule true n a = record a { negatives = a.negatives ++ n ∷ [] }
with_rule false n a = record a { positives = a.positives ++ n ∷ [] }

-- a position, if it is not before the place
abbrev pub place_from : ℕ → ℕ → ℕ
place_from place at = if nat_lt at place then 0 else at

-- the attempts after a call that is recorded, by those before it and those at its end: at the place, its rule
-- stands for the rules within it, unless these are exactly one
abbrev pub after_call : {A : Type 0} → Bool → ℕ → A → ℕ → Attempts A → Attempts A → Attempts A
after_call below place n at before now =
    record (if at == place && not (count now == suc (count before)) then with_rule below n before else now) {
      furthest = max now.furthest (place_from place at);
    }

-- a call is recorded where it fails; but below a `!` where it matches
abbrev pub is_recorded : (below matched : Bool) → Bool
is_recorded true matched = matched
is_recorded false matched = not matched

abbrev pub has_matched : Outcome → Bool
has_matched Failure = false
has_matched (Success t us) = true

-- the attempts of a call, which may be recorded or not, by those within it
abbrev pub told_attempts : Bool → Bool → Text → ℕ → State → Outcome → Attempts Text → Attempts Text
told_attempts false below n place s o within = within
told_attempts true below n place s o within =
    if is_recorded below (has_matched o)
    then after_call below place n s.position no_attempt within
    else within

-- the attempts at a place, and the greatest position from there on of a call that is recorded, where the task
-- is below a `!` or not. The call of a rule may be recorded if it gives a token. A `!` below a `!` ends that
abbrev pub attempts_at : {g : Grammar} {classes : Classes} {k : Task} {s : State} {o : Outcome}
    → (below : Bool) → ℕ → Does g classes k s o → Attempts Text
attempts_at below place str = no_attempt
attempts_at below place insens = no_attempt
attempts_at below place range = no_attempt
attempts_at below place slice = no_attempt
attempts_at below place skip = no_attempt
attempts_at below place (call {m = m} {n = n} {s = s} {o = o} {r = r} h d) =
    told_attempts (gives_token r.type_of m) below n place s o (attempts_at below place d)
attempts_at below place (other {m = m} {n = n} {s = s} {o = o} h b) =
    told_attempts (seen_from m && is_eoi n) below n place s o no_attempt
attempts_at below place (pos_pred d) = attempts_at below place d
attempts_at below place (neg_pred d) = attempts_at (not below) place d
attempts_at below place (push d) = attempts_at below place d
attempts_at below place push_literal = no_attempt
attempts_at below place (tag d) = attempts_at below place d
attempts_at below place (restore d) = attempts_at below place d
attempts_at below place (seq a k b) =
    append (attempts_at below place a) (append (attempts_at below place k) (attempts_at below place b))
attempts_at below place (seq_first a) = attempts_at below place a
attempts_at below place (seq_second a k b) =
    append (attempts_at below place a) (append (attempts_at below place k) (attempts_at below place b))
attempts_at below place (left a) = attempts_at below place a
attempts_at below place (right a b) = append (attempts_at below place a) (attempts_at below place b)
attempts_at below place (opt a) = attempts_at below place a
attempts_at below place (opt_none a) = attempts_at below place a
attempts_at below place (rep a b) = append (attempts_at below place a) (attempts_at below place b)
attempts_at below place (rep_none a) = attempts_at below place a
attempts_at below place (turn k a b) =
    append (attempts_at below place k) (append (attempts_at below place a) (attempts_at below place b))
attempts_at below place (turn_none k a) = append (attempts_at below place k) (attempts_at below place a)
attempts_at below place (rep_once d) = attempts_at below place d
attempts_at below place (rep_exact d) = attempts_at below place d
attempts_at below place (rep_min d) = attempts_at below place d
attempts_at below place (rep_max d) = attempts_at below place d
attempts_at below place (rep_min_max d) = attempts_at below place d
attempts_at below place (skips d) = attempts_at below place d
attempts_at below place atomic = no_attempt
attempts_at below place compound_atomic = no_attempt
attempts_at below place between = no_attempt
