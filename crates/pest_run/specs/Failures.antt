-- The position of a failure that a report shows, and the names that it tells.
use Rattle.std.specs.Prelude.{◌≡◌, ◌⊎◌, ℕ, List, [], false}
use Rattle.base_language.specs.Language.Expected.{expected}
use Rattle.base_language.specs.Language.Expression.{Grammar}
use Rattle.base_language.specs.Language.FurthestFailure.{furthest}
use Rattle.base_language.specs.Language.Meaning.{Does, Task}
use Rattle.base_language.specs.Language.State.{Classes, Outcome as Result, State}
use Rattle.base_language.specs.Language.Text.{Text}
use Rattle.matcher_code.specs.Attempts.{attempts_at}
use Rattle.matcher_engine.specs.FailureAttempts.{attempt_place}
use Rattle.matcher_program.specs.ExpectedNames.{each_once}
use Rattle.matcher_support.specs.Compiled.{AreExpectedIn}
use Rattle.matcher_support.specs.Compiled.{AreAttemptsIn}
use Rattle.matcher_support.specs.declared.attempts.NamedAttempts.{NamedAttempts}

-- of a derivation: no name is expected at the furthest failure, and these are the position of pest's own
-- error, the names that are expected there, and those that are not, each once in the order of the calls
pub record AreOfError {g : Grammar} {classes : Classes} {k : Task} {s : State} {o : Result}
    (d : Does g classes k s o) (place : ℕ) (names others : List Text) : Type 0 where
  pub none : expected d ≡ []
  pub at_place : place ≡ attempt_place d
  pub positives : names ≡ each_once (attempts_at false place d).positives
  pub negatives : others ≡ each_once (attempts_at false place d).negatives

-- the names of a failure's report: those that are expected at the furthest position; or those of pest's error
abbrev pub AreTold : {g : Grammar} {classes : Classes} {k : Task} {s : State} {o : Result}
    → Does g classes k s o → ℕ → (names others : List Text) → Type 0
AreTold d place names others =
    ((place ≡ furthest d) × (names ≡ each_once (expected d)) × (others ≡ []))
    ⊎ AreOfError d place names others

-- of a rule that has its furthest failure at this position: these names are expected there; or none is, and
-- they are those of pest's error
abbrev pub IsFound : Grammar → (rule text : List ℕ) → ℕ → NamedAttempts → Type 0
IsFound g rule text furthest it =
    ((it.place ≡ furthest) × AreExpectedIn g rule text furthest it.positives.items
    × (it.negatives.items ≡ []))
    ⊎ (AreExpectedIn g rule text furthest [] × AreAttemptsIn g rule text it)
