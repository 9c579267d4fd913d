-- A run of a task, and its effect on the furthest failure.
use Rattle.std.specs.Prelude.{◌≡◌, ℕ, max}
use Rattle.base_language.specs.Language.Expression.{Grammar}
use Rattle.base_language.specs.Language.State.{Classes, State, Outcome}
use Rattle.base_language.specs.Language.Meaning.{Does, Task}
use Rattle.base_language.specs.Language.FurthestFailure.{furthest}

-- the task k from s was found to have the outcome o, and the furthest failure so far was at `old` before it
-- and at `new` after it
pub record Ran (g : Grammar) (classes : Classes) (k : Task) (s : State) (o : Outcome)
    (old new : ℕ) : Type 0 where
  pub found : Does g classes k s o
  pub noted : new ≡ max old (furthest found)
