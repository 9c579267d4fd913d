-- Explanations of failures: the calls that are open where a rule fails on a text.
use Rattle.std.specs.Prelude.{◌≡◌, ◌⊎◌, ℕ, List, ◌++◌, Option, Result, OnOk, codes, string_bytes, ⊤}
use Rattle.std.specs.Global.{Vec}
use Rattle.std.specs.Io.KnownBytes.{Appends}
use Rattle.std.specs.Str.{chars}
use Rattle.base_language.specs.Language.Expression.{Grammar}
use Rattle.base_language.specs.Language.State.{Failure as Failed}
use Rattle.matcher_code.specs.declared.state.OpenCall.{OpenCall}
use Rattle.matcher_program.specs.Answers.{Has}
use Rattle.matcher_support.specs.Compiled.{FailsIn}
use Rattle.matcher_support.specs.Sets.{is_in_property}
use Rattle.matcher_support.specs.Compiled.{ArePathsIn}
use Rattle.pest_run.specs.Failures.{IsFound}
use Rattle.pest_run.specs.Messages.{limit_text}
use Rattle.pest_run.specs.Outcomes.{HasNoRule, TakesTooManySteps}
use Rattle.pest_run.specs.Paths.{shown_paths}
use Rattle.pest_run.specs.RuleNames.{rule_names}
use Rattle.pest_run.specs.Written.{AreRun, WritesLine}
use Rattle.pest_run.specs.declared.arguments.Format.{Format}
use Rattle.pest_run.specs.declared.arguments.Format.TheVariants as format_is
use Rattle.pest_run.specs.declared.arguments.RuleForm.{RuleForm}
use Rattle.matcher_support.specs.declared.attempts.NamedAttempts.{NamedAttempts}
use Rattle.pest_run.specs.declared.explanations.Explanation.{Explanation}
use Rattle.pest_run.specs.declared.explanations.Explanation.TheVariants as is

-- the rule fails on a text, and the report of that shows this place
pub record IsReportedAt (g : Grammar) (rule text : List ℕ) (place : ℕ) : Type 0 where
  pub furthest : ℕ
  pub fails : FailsIn g rule text furthest
  pub failure : NamedAttempts
  pub found : IsFound g rule text furthest failure
  pub same : place ≡ failure.place

-- a text shows the paths to the place of that report, all of them or the first 20
pub record ShowsPaths (g : Grammar) (rule text : List ℕ) (format : Format) (shown : List ℕ) : Type 0 where
  pub place : ℕ
  pub reported : IsReportedAt g rule text place
  pub paths : List (Vec OpenCall)
  pub are : ArePathsIn g rule text place paths
  pub shows : shown ≡ shown_paths format text (rule_names g) place paths

-- that the open calls were not found in a given number of steps, or that memory or the lists did not suffice
abbrev pub unfound_text : ℕ → List ℕ
unfound_text steps = codes "the open calls were not found in " ++ limit_text steps

abbrev pub unstored_text : List ℕ
unstored_text = codes "the open calls were not found: out of memory, or more than 1024 lists of them"

-- the rule does not fail on a text, or there is none of that name
abbrev pub HasNoFailure : Grammar → (rule text : List ℕ) → Type 0
HasNoFailure g rule text = (Has g (chars rule) text is_in_property Failed → ⊥) ⊎ HasNoRule g rule

-- the paths are shown; or a run takes too many steps, and the message says so; or the rule does not fail. An
-- allocation failure is not constrained
abbrev pub IsExplanation : Grammar → (rule text : List ℕ) → Format → ℕ → Explanation → Type 0
IsExplanation g rule text format limit (is.Shown shown) = ShowsPaths g rule text format (string_bytes shown)
IsExplanation g rule text format limit (is.OutOfSteps message) =
    TakesTooManySteps g rule text limit × (string_bytes message ≡ unfound_text limit)
IsExplanation g rule text format limit is.Memory = ⊤
IsExplanation g rule text format limit is.NoFailure = HasNoFailure g rule text

-- so it is by the rules of a grammar, as they are run
abbrev pub IsFormExplanation : RuleForm → (grammar rule text : List ℕ) → Format → ℕ → Explanation → Type 0
IsFormExplanation form grammar rule text format limit explanation = (explanation ≡ is.Memory)
    ⊎ ((rules : Grammar) × AreRun form grammar rules × IsExplanation rules rule text format limit explanation)

-- one writer is the same, and to the other an explanation is written: paths as JSON to the first one, all
-- else to the second
abbrev pub WritesExplanation : {X E : Type 0} → Explanation → Format → (same_out same : Type 0) → Result X E
    → (old_out new_out old new : Option (List ℕ)) → Type 0
WritesExplanation (is.Shown shown) format_is.Json same_out same written old_out new_out old new =
    same × OnOk written (Appends old_out new_out (string_bytes shown))
WritesExplanation (is.Shown shown) _ same_out same written old_out new_out old new =
    same_out × WritesLine (string_bytes shown) written old new
WritesExplanation (is.OutOfSteps message) _ same_out same written old_out new_out old new =
    same_out × WritesLine (string_bytes message) written old new
WritesExplanation is.Memory _ same_out same written old_out new_out old new =
    same_out × WritesLine unstored_text written old new
WritesExplanation is.NoFailure _ same_out same written old_out new_out old new = same_out × same

-- an explanation with a property is written
pub record Explains {X E : Type 0} (Is : Explanation → Type 0) (format : Format) (same_out same : Type 0)
    (written : Result X E) (old_out new_out old new : Option (List ℕ)) : Type 0 where
  pub explanation : Explanation
  pub is_so : Is explanation
  pub writes : WritesExplanation explanation format same_out same written old_out new_out old new
