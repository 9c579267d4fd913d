-- Reasons of a stop, which hold also if the rule has no outcome.
use Rattle.std.specs.Prelude.{◌<◌, ⊤, ℕ, ◌*◌, List}
use Rattle.base_language.specs.Language.Expression.{Grammar, Ident}
use Rattle.base_language.specs.Language.Meaning.{Run, Task}
use Rattle.base_language.specs.Language.State.{Classes, Mode, NonAtomicMode, Outcome, State}
use Rattle.base_language.specs.Language.Text.{Text}
use Rattle.matcher_code.specs.Begun.{ComesTo, IsEmptyRead}
use Rattle.matcher_program.specs.declared.form.Property.{Property}
use Rattle.matcher_program.specs.declared.answers.Stop.{Stop}
use Rattle.matcher_program.specs.declared.answers.Stop.TheVariants as stop
use Rattle.matcher_program.specs.Answers.{HasAt}
use Rattle.matcher_program.specs.Programs.{Fits}
use Rattle.matcher_program.specs.Sizes.{most_steps}

module _ (g : Grammar) (classes : Classes) (n : Text) (s : State) where
  -- the rule, called in NonAtomic from a state, comes to a task in another one, if a given number of rules of
  -- the relation of matching are applied
  abbrev pub RuleComesTo : ℕ → Task → State → Type 0
  RuleComesTo i k t = ComesTo g classes (Run NonAtomicMode (Ident n)) s i k t

  -- a run of the rule takes more steps than a given number, two for each rule of the relation: up to an
  -- outcome, or up to a task that it comes to
  pub data IsLonger (steps : ℕ) : Type 0 where
    ends : {o : Outcome} (d : HasAt g n s classes o) → steps < most_steps d → IsLonger steps
    comes : {i : ℕ} {k : Task} {t : State} → RuleComesTo i k t → steps < 2 * i → IsLonger steps

  -- a run of the rule comes to `PEEK` or `POP`, and the stack is empty there
  pub record ReadsEmptyStack : Type 0 where
    pub applied : ℕ
    pub mode : Mode
    pub name : Text
    pub state : State
    pub comes : RuleComesTo applied (Run mode (Ident name)) state
    pub read : IsEmptyRead g name state

-- the reason to stop a run, of at most a given number of steps: an allocation failed; or the text is too
-- long; or there is a longer run; or one that reads the empty stack
abbrev pub HasReason : Grammar → List Property → Text → State → ℕ → Stop → Type 0
HasReason g ps n s steps stop.Memory = ⊤
HasReason g ps n s steps stop.TextTooLong = ⊤
HasReason g ps n s steps stop.OutOfSteps =
    (classes : Classes) → Fits ps classes → ∥ IsLonger g classes n s steps ∥₁
HasReason g ps n s steps stop.EmptyStack =
    (classes : Classes) → Fits ps classes → ∥ ReadsEmptyStack g classes n s ∥₁
