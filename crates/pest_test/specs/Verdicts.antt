-- Verdicts on cases.
use Rattle.std.specs.Prelude.{◌≡◌, ◌≢◌, ◌⊎◌, ◌*◌, ◌+◌, ◌^◌, ◌-◌, ℕ, List, Bool, true, false, not, Option, Some, None, if◌then◌else◌, length, min, ⊤}
use Rattle.std.specs.Borrow.{Bor}
use Rattle.std.specs.List.{AllZip, list_any}
use Rattle.std.specs.Str.{chars}
use Rattle.base_language.specs.Language.Expression.{Grammar, rule_of}
use Rattle.base_language.specs.Language.State.{Failure as Failed, State, Success, Trees}
use Rattle.matcher_engine.specs.BlockRuns.{IsStopped}
use Rattle.matcher_engine.specs.ParseTrees.{HasParseTree}
use Rattle.matcher_program.specs.Answers.{Has, start_of}
use Rattle.matcher_support.specs.Compiled.{FailsIn}
use Rattle.matcher_support.specs.Sets.{is_in_property}
use Rattle.pest_test.specs.Agreement.{Agree}
use Rattle.pest_test.specs.declared.cases.Case.{Case}
use Rattle.pest_test.specs.declared.cases.Expected.{Expected}
use Rattle.pest_test.specs.declared.cases.Expected.TheVariants as expected
use Rattle.pest_test.specs.declared.verdicts.Failure.{Failure}
use Rattle.pest_test.specs.declared.verdicts.Failure.TheVariants as failure
use Rattle.pest_test.specs.declared.verdicts.Verdict.{Verdict}
use Rattle.pest_test.specs.declared.verdicts.Verdict.TheVariants as verdict
use Rattle.program_support.specs.declared.status.Status.{Status}
use Rattle.program_support.specs.declared.status.Status.TheVariants.{Done, Found}

-- the name of the rule of a case: its own, or that of the cases that name none
abbrev pub rule_name : Case → List ℕ → List ℕ
rule_name case default = elim case.rule [ Some name ↦ name.now | None ↦ default ]

-- the greatest number of steps on a text of a given number of bytes: 2^28, and 4,096 for each byte, if a
-- `u64` holds it
abbrev pub most_steps : ℕ → ℕ
most_steps length = min (4096 * (length + 65536)) (2 ^ 64 - 1)

-- the rule, called at the start of a case's text, succeeds, at its end unless a prefix is enough, and its
-- trees have a property
pub record MatchesAs (g : Grammar) (rule : List ℕ) (case : Case) (Are : Trees → Type 0) : Type 0 where
  pub state : State
  pub trees : Trees
  pub matches : Has g (chars rule) case.text.now is_in_property (Success state trees)
  pub whole : case.is_prefix ≡ false → state.position ≡ length case.text.now
  pub are : Are trees

-- the rule succeeds before the end of a case's text, and a prefix is not enough
pub record EndsEarly (g : Grammar) (rule : List ℕ) (case : Case) : Type 0 where
  pub state : State
  pub trees : Trees
  pub matches : Has g (chars rule) case.text.now is_in_property (Success state trees)
  pub wants_whole : case.is_prefix ≡ false
  pub early : state.position ≢ length case.text.now

-- the rule fails on a case's text, or ends too early
abbrev pub DoesNotMatch : Grammar → List ℕ → Case → Type 0
DoesNotMatch g rule case = Has g (chars rule) case.text.now is_in_property Failed ⊎ EndsEarly g rule case

-- what a case expects is so: the rule matches its text with trees that agree, or does not match it
abbrev pub IsAsExpected : Grammar → List ℕ → Case → Expected → Type 0
IsAsExpected g rule case (expected.Trees events) = MatchesAs g rule case (Agree case.text.now events.items)
IsAsExpected g rule case expected.Failure = DoesNotMatch g rule case

abbrev pub Passes : Grammar → List ℕ → Case → Type 0
Passes g rule case = IsAsExpected g rule case case.expected

-- a case fails for this reason
abbrev pub FailsFor : Grammar → List ℕ → Case → Failure → Type 0
FailsFor g rule case (failure.Differs found) =
    HasParseTree g (chars rule) (start_of case.text.now) is_in_property found
FailsFor g rule case failure.Matches =
    (case.expected ≡ expected.Failure) × MatchesAs g rule case (λ trees. ⊤)
FailsFor g rule case (failure.EndsEarly found) = EndsEarly g rule case
FailsFor g rule case (failure.NoMatch place) = FailsIn g rule case.text.now place
FailsFor g rule case failure.NoRule = rule_of g (chars rule) ≡ None
FailsFor g rule case (failure.Stopped why) =
    IsStopped g (chars rule) (start_of case.text.now) is_in_property (most_steps (length case.text.now)) why

-- the verdict on a case by a rule: it passes, or it is skipped, or it fails for a reason
abbrev pub IsVerdictBy : Grammar → List ℕ → Case → Verdict → Type 0
IsVerdictBy g rule case verdict.Passed = (case.is_skipped ≡ false) × Passes g rule case
IsVerdictBy g rule case verdict.Skipped = case.is_skipped ≡ true
IsVerdictBy g rule case (verdict.Failed why) = (case.is_skipped ≡ false) × FailsFor g rule case why

-- so it is by the rule of the case
abbrev pub IsVerdict : Grammar → List ℕ → Case → Verdict → Type 0
IsVerdict g default case verdict = IsVerdictBy g (rule_name case default) case verdict

-- verdicts on cases, in order
abbrev pub AreVerdicts : Grammar → List ℕ → List Case → List Verdict → Type 0
AreVerdicts g default cases verdicts = AllZip (IsVerdict g default) cases verdicts

-- whether a verdict counts as a failure; where trees are updated, one whose trees differ does not
abbrev pub is_failure : Bool → Verdict → Bool
is_failure is_update verdict.Passed = false
is_failure is_update verdict.Skipped = false
is_failure is_update (verdict.Failed (failure.Differs found)) = not is_update
is_failure is_update (verdict.Failed _) = true

-- the status for verdicts: 1 if one of them counts as a failure, or else 0
abbrev pub status_for : Bool → List Verdict → Status
status_for is_update verdicts = if list_any (is_failure is_update) verdicts then Found else Done
