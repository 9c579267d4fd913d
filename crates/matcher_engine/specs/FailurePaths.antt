-- The calls that are open where a name is expected.
use Rattle.std.specs.Prelude.{◌≡◌, ℕ, List, [], ◌∷◌, Result, Ok, Err, false}
use Rattle.base_language.specs.Language.Expression.{Grammar}
use Rattle.base_language.specs.Language.State.{Classes, Outcome, State}
use Rattle.base_language.specs.Language.Text.{Text}
use Rattle.matcher_code.specs.declared.state.OpenCall.{OpenCall}
use Rattle.matcher_code.specs.declared.state.Places.{Places}
use Rattle.matcher_code.specs.Paths.{Path, paths_at}
use Rattle.matcher_code.specs.Attempts.{attempts_at}
use Rattle.matcher_code.specs.Reached.{calls_of, attempts_by_number}
use Rattle.matcher_code.specs.Steps.{with_path}
use Rattle.matcher_program.specs.Answers.{HasAt, IsStoppedFrom}
use Rattle.matcher_program.specs.Programs.{Fits}
use Rattle.matcher_program.specs.declared.answers.Stop.{Stop}
use Rattle.matcher_program.specs.declared.form.Program.{Program}
use Rattle.matcher_program.specs.declared.form.Property.{Property}
use Rattle.matcher_sets.specs.Forms.{grammar_in}
use Rattle.matcher_compiler.specs.Names.{number_in}
use Rattle.matcher_engine.specs.Traces.{paths_in, trace_of}
use Rattle.matcher_engine.specs.declared.tracer.Tracer.{Tracer}
use Rattle.matcher_engine.specs.Reasons.{HasReason}

-- lists of calls, and then those of some paths that are not among them, each once
abbrev pub with_each : (Text → ℕ) → List (List OpenCall) → List Path → List (List OpenCall)
with_each number lists [] = lists
with_each number lists (p ∷ ps) = with_each number (with_path lists (calls_of number p)) ps

-- the result of a run of the rule in at most a given number of steps has a property, or the reason of a stop
abbrev pub Answers : {A : Type 0} → Program → Text → State → ℕ → (A → Type 0) → Result A Stop → Type 0
Answers p n s steps Has (Ok it) = Has it
Answers p n s steps Has (Err why) = IsStoppedFrom (grammar_in p) p.properties.items n s steps why
    × HasReason (grammar_in p) p.properties.items n s steps why

-- the rule matches or fails from a state, and the paths and the attempts of two positions are recorded
pub record IsTraced (g : Grammar) (n : Text) (s : State) (classes : Classes) (asked : Places) (t : Tracer)
    : Type 0 where
  pub outcome : Outcome
  pub found : HasAt g n s classes outcome
  pub paths : paths_in t.paths.items ≡ with_each (number_in g) [] (paths_at asked.names found)
  pub attempts : (trace_of t).attempts
      ≡ attempts_by_number (number_in g) (attempts_at false asked.attempts found)

-- so it is for all fitting classes
abbrev pub IsTracedFrom : Grammar → List Property → Text → State → Places → Tracer → Type 0
IsTracedFrom g ps n s asked t = (classes : Classes) → Fits ps classes → IsTraced g n s classes asked t
