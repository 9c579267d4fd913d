-- The attempts of a run: the rules that an error of pest names, and its place.
use Rattle.std.specs.Prelude.{◌≡◌, ℕ, List, map, false}
use Rattle.base_language.specs.Language.Expression.{Grammar}
use Rattle.base_language.specs.Language.Meaning.{Does, Task}
use Rattle.base_language.specs.Language.State.{Classes, Outcome, State}
use Rattle.base_language.specs.Language.Text.{Text}
use Rattle.matcher_code.specs.Attempts.{attempts_at}
use Rattle.matcher_program.specs.Answers.{HasAt}
use Rattle.matcher_program.specs.Programs.{Fits}
use Rattle.matcher_program.specs.declared.form.Property.{Property}
use Rattle.matcher_compiler.specs.Names.{number_in}
use Rattle.matcher_engine.specs.declared.attempts.Attempts.{Attempts}

-- the greatest position of a call that is recorded
abbrev pub attempt_place : {g : Grammar} {classes : Classes} {k : Task} {s : State} {o : Outcome}
    → Does g classes k s o → ℕ
attempt_place d = (attempts_at false 0 d).furthest

-- the numbers of the rules that are recorded at a position are these, and this is the greatest position from
-- it on
pub record AreToldAt (g : Grammar) (n : Text) (s : State) (classes : Classes) (asked : ℕ) (it : Attempts)
    : Type 0 where
  pub outcome : Outcome
  pub found : HasAt g n s classes outcome
  pub place : it.place ≡ (attempts_at false asked found).furthest
  pub positives : it.positives.items ≡ map (number_in g) (attempts_at false asked found).positives
  pub negatives : it.negatives.items ≡ map (number_in g) (attempts_at false asked found).negatives

-- the rule matches or fails from a state, and these are the greatest position of a call that is recorded,
-- and the numbers of the rules that are recorded there
pub record AreAttempts (g : Grammar) (n : Text) (s : State) (classes : Classes) (it : Attempts) : Type 0 where
  pub outcome : Outcome
  pub found : HasAt g n s classes outcome
  pub place : it.place ≡ attempt_place found
  pub positives : it.positives.items ≡ map (number_in g) (attempts_at false it.place found).positives
  pub negatives : it.negatives.items ≡ map (number_in g) (attempts_at false it.place found).negatives

-- so it is for all fitting classes
abbrev pub AreAttemptsFrom : Grammar → List Property → Text → State → Attempts → Type 0
AreAttemptsFrom g ps n s it = (classes : Classes) → Fits ps classes → AreAttempts g n s classes it
