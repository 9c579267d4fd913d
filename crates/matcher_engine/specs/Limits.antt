-- Limits of runs, and what suffices for an answer.
use Rattle.std.specs.Prelude.{◌≡◌, ◌<◌, ◌-◌, ◌*◌, ◌^◌, ℕ, Option, None, Some, List, false, length, min, true}
use Rattle.base_language.specs.Language.Expression.{Grammar}
use Rattle.base_language.specs.Language.State.{Classes, Outcome, State}
use Rattle.base_language.specs.Language.Text.{Text}
use Rattle.matcher_code.specs.Lists.{CodeLists}
use Rattle.matcher_code.specs.StackUses.{is_stackless}
use Rattle.matcher_compiler.specs.Extents.{grammar_stack}
use Rattle.matcher_machine.specs.Packrats.{most_turns}
use Rattle.matcher_program.specs.Answers.{HasAt}
use Rattle.matcher_program.specs.Programs.{Fits}
use Rattle.matcher_program.specs.declared.form.Property.{Property}

-- the greatest number of steps within a limit: if there is none, the steps that a `u64` of operations has
abbrev pub steps_of : Option ℕ → ℕ
steps_of (Some steps) = steps
steps_of None = 2 ^ 62 - 1

-- the turns of a run with a memo table: four for each step
abbrev pub turns_of : Option ℕ → ℕ
turns_of limit = min (4 * steps_of limit) (2 ^ 64 - 1)

-- no rule uses the stack, and the turns are more than code of a given number of operations may take on a
-- given number of bytes
pub record IsAmple (g : Grammar) (operations bytes turns : ℕ) : Type 0 where
  pub stackless : grammar_stack g ≡ false
  pub more : most_turns operations bytes < turns

-- so it is with code and a text
pub record IsEnough (code : CodeLists) (text : List ℕ) (turns : ℕ) : Type 0 where
  pub stackless : is_stackless code ≡ true
  pub more : most_turns (length code.ops) (length text) < turns

-- the rule has an outcome from a state, for classes that fit
pub record HasOutcomeFrom (g : Grammar) (ps : List Property) (n : Text) (s : State) : Type 0 where
  pub classes : Classes
  pub fits : Fits ps classes
  pub outcome : Outcome
  pub found : HasAt g n s classes outcome
