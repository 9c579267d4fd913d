-- Outcomes of a rule on a text, and the refusals of a run.
use Rattle.std.specs.Prelude.{◌≡◌, ◌<◌, ◌≤◌, ◌+◌, ◌^◌, List, [], ℕ, None, chars, drop, encode_utf8_all, length, ⊤}
use Rattle.std.specs.Borrow.{Bor}
use Rattle.base_language.specs.declared.runtime.places.Position.{Position}
use Rattle.base_language.specs.Pieces.Span.{position_offset, position_text}
use Rattle.base_language.specs.Language.Text.{Text}
use Rattle.base_language.specs.Language.Expression.{Grammar, Ident, rule_of}
use Rattle.base_language.specs.Language.State.{NonAtomicMode, State, Outcome, Failure, Classes}
use Rattle.base_language.specs.Language.Meaning.{Matches}
use Rattle.base_language.specs.Language.Expected.{expected_at}
use Rattle.base_language.specs.Language.FurthestFailure.{furthest}
use Rattle.matcher_program.specs.declared.form.Property.{Property}
use Rattle.matcher_program.specs.declared.answers.Refusal.{Refusal}
use Rattle.matcher_program.specs.declared.answers.Refusal.TheVariants as is
use Rattle.matcher_program.specs.declared.answers.Stop.{Stop}
use Rattle.matcher_program.specs.declared.answers.Stop.TheVariants as stop
use Rattle.matcher_program.specs.Programs.{Fits}
use Rattle.matcher_program.specs.Sizes.{most_steps}
use Rattle.matcher_program.specs.ExpectedNames.{each_once, name_texts}

-- the start of a text, with the empty stack
abbrev pub start_of : List ℕ → State
start_of text = record { position = 0; rest = chars text; stack = [] }

-- a position of a text, with the empty stack
abbrev pub state_at : Position → State
state_at p = record {
  position = position_offset p;
  rest = chars (drop (position_offset p) (position_text p));
  stack = [];
}

-- the rule, called in NonAtomic in this state, has this outcome
abbrev pub HasAt : Grammar → Text → State → Classes → Outcome → Type 0
HasAt g n s classes o = Matches g classes (Ident n) NonAtomicMode s o

-- so it has at the start of the text
abbrev pub Has : Grammar → Text → List ℕ → Classes → Outcome → Type 0
Has g n text classes o = HasAt g n (start_of text) classes o

-- the bytes of a text up to a state, and those that are left
abbrev pub text_size : State → ℕ
text_size s = s.position + length (encode_utf8_all s.rest)

-- an allocation failed; or every outcome of the rule takes more steps than were allowed; or, where the
-- stack was empty for `PEEK` or `POP`, the rule has no outcome, for all fitting classes; or the text
-- has 4 GiB
abbrev pub IsStoppedFrom : Grammar → List Property → Text → State → ℕ → Stop → Type 0
IsStoppedFrom g ps n s steps stop.Memory = ⊤
IsStoppedFrom g ps n s steps stop.OutOfSteps =
    (classes : Classes) → Fits ps classes → (o : Outcome) (d : HasAt g n s classes o) → steps < most_steps d
IsStoppedFrom g ps n s steps stop.EmptyStack =
    (classes : Classes) → Fits ps classes → (o : Outcome) → HasAt g n s classes o → ⊥
IsStoppedFrom g ps n s steps stop.TextTooLong = 2 ^ 32 ≤ text_size s

abbrev pub IsStopped : Grammar → List Property → Text → List ℕ → ℕ → Stop → Type 0
IsStopped g ps n text steps why = IsStoppedFrom g ps n (start_of text) steps why

-- the rule fails from a state, for all fitting classes, and this is the position of the failure
abbrev pub FailsWith : Grammar → List Property → Text → State → ℕ → Type 0
FailsWith g ps n s place =
    (classes : Classes) → Fits ps classes → (d : HasAt g n s classes Failure) × (place ≡ furthest d)

abbrev pub FailsAt : Grammar → List Property → Text → List ℕ → ℕ → Type 0
FailsAt g ps n text place = FailsWith g ps n (start_of text) place

-- no rule has the name; or the position of the failure satisfies `fails`; or the reason of the stop
-- satisfies `stops`
abbrev pub IsRefusedAs : Grammar → Text → (ℕ → Type 0) → (Stop → Type 0) → Refusal → Type 0
IsRefusedAs g n fails stops (is.UnknownRule name) = (rule_of g n ≡ None) × (chars name.now ≡ n)
IsRefusedAs g n fails stops (is.NoMatch place) = fails place
IsRefusedAs g n fails stops (is.Stopped why) = stops why

-- no rule has the name; or the rule fails there; or the run, of at most a given number of steps, was stopped
abbrev pub IsRefusedFrom : Grammar → List Property → Text → State → ℕ → Refusal → Type 0
IsRefusedFrom g ps n s steps why =
    IsRefusedAs g n (FailsWith g ps n s) (IsStoppedFrom g ps n s steps) why

abbrev pub IsRefused : Grammar → List Property → Text → List ℕ → ℕ → Refusal → Type 0
IsRefused g ps n text steps why = IsRefusedFrom g ps n (start_of text) steps why

-- a refusal where a failure of the rule has an answer: no rule has the name, or the run was stopped
abbrev pub IsUnansweredFrom : Grammar → List Property → Text → State → ℕ → Refusal → Type 0
IsUnansweredFrom g ps n s steps why = IsRefusedAs g n (λ place. ⊥) (IsStoppedFrom g ps n s steps) why

abbrev pub IsUnanswered : Grammar → List Property → Text → List ℕ → ℕ → Refusal → Type 0
IsUnanswered g ps n text steps why = IsUnansweredFrom g ps n (start_of text) steps why

-- the names are the expected set at a position, for all fitting classes, every name once, in the order of
-- the calls, where the rule fails or matches from a state
abbrev pub AreExpectedFrom : Grammar → List Property → Text → State → ℕ → List (Bor (List ℕ)) → Type 0
AreExpectedFrom g ps n s place names = (classes : Classes) → Fits ps classes
    → (o : Outcome) × (d : HasAt g n s classes o) × (name_texts names ≡ each_once (expected_at place d))

abbrev pub AreExpectedAt : Grammar → List Property → Text → List ℕ → ℕ → List (Bor (List ℕ)) → Type 0
AreExpectedAt g ps n text place names = AreExpectedFrom g ps n (start_of text) place names
