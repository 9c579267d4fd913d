-- The failures of a derivation: the furthest one, the names that are expected at a position, with the calls
-- that are open there, and the attempts at another position.
use Rattle.std.specs.Prelude.{ℕ, max, List, [], ◌++◌, Bool, codes, false, true}
use Rattle.base_language.specs.Language.Text.{Text}
use Rattle.base_language.specs.Language.Expression.{Grammar}
use Rattle.base_language.specs.Language.State.{Classes, Outcome, State}
use Rattle.base_language.specs.Language.Meaning.{Does, Task}
use Rattle.base_language.specs.Language.FurthestFailure.{furthest, place_of}
use Rattle.base_language.specs.Language.Expected.{expected_at, told}
use Rattle.matcher_code.specs.Attempts.{Attempts, attempts_at, no_attempt, append, told_attempts}
use Rattle.matcher_code.specs.Paths.{Path, paths_at, told_paths}
use Rattle.matcher_code.specs.declared.state.Places.{Places}

-- the attempts are those where the task is not below a `!`, and those where it is
pub record Failures : Type 0 where
  pub furthest : ℕ
  pub names : List Text
  pub paths : List Path
  pub attempts : Attempts Text
  pub negated : Attempts Text

abbrev pub failures_at : {g : Grammar} {classes : Classes} {k : Task} {s : State} {o : Outcome}
    → Places → Does g classes k s o → Failures
failures_at asked d = record {
  furthest = furthest d;
  names = expected_at asked.names d;
  paths = paths_at asked.names d;
  attempts = attempts_at false asked.attempts d;
  negated = attempts_at true asked.attempts d;
}

-- no failure is recorded, and no name
abbrev pub no_failure : Failures
no_failure =
    record { furthest = 0; names = []; paths = []; attempts = no_attempt; negated = no_attempt }

abbrev pub in_silence : Places → State → Failures
in_silence asked s = no_failure

-- the failures of `EOI`, whose call counts
abbrev pub end_failures : Places → State → Outcome → Failures
end_failures asked s o = record {
  furthest = place_of true s o;
  names = told true (codes "EOI") asked.names s o [];
  paths = told_paths true (codes "EOI") asked.names s o [];
  attempts = told_attempts true false (codes "EOI") asked.attempts s o no_attempt;
  negated = told_attempts true true (codes "EOI") asked.attempts s o no_attempt;
}

-- failures of two parts
abbrev pub both : Failures → Failures → Failures
both f g = record {
  furthest = max f.furthest g.furthest;
  names = f.names ++ g.names;
  paths = f.paths ++ g.paths;
  attempts = append f.attempts g.attempts;
  negated = append f.negated g.negated;
}

-- failures of a part below a `!`
abbrev pub unnamed : Failures → Failures
unnamed f = record f { names = []; paths = []; attempts = f.negated; negated = f.attempts }

-- the attempts of a part that is below a `!` or not
abbrev pub attempts_of : (below : Bool) → Failures → Attempts Text
attempts_of true f = f.negated
attempts_of false f = f.attempts
