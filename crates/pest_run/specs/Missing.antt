-- What a text was missing: the terminals that were tried at the furthest position.
use Rattle.std.specs.Prelude.{◌≡◌, ◌⊎◌, ℕ, List, ◌++◌, Option, Result, codes}
use Rattle.base_language.specs.Language.Expression.{Grammar}
use Rattle.base_language.specs.Language.Text.{Text}
use Rattle.base_language.specs.Pieces.LineColumn.{line_column}
use Rattle.matcher_program.specs.ExpectedNames.{name_texts}
use Rattle.matcher_support.specs.Compiled.{FailsIn}
use Rattle.matcher_support.specs.declared.attempts.NamedAttempts.{NamedAttempts}
use Rattle.matcher_terminals.specs.Exposed.{exposed}
use Rattle.matcher_terminals.specs.Labels.{labels_of}
use Rattle.pest_run.specs.Failures.{IsFound}
use Rattle.pest_run.specs.Messages.{failure_text, place_text}
use Rattle.pest_run.specs.Written.{AreRun, WritesLine}
use Rattle.pest_run.specs.declared.arguments.RuleForm.{RuleForm}

-- that these terminals are expected at a position, and that others are not
abbrev pub missing_text : ℕ × ℕ → (names others : List Text) → List ℕ
missing_text place names others =
    codes "help: at " ++ place_text place ++ codes ", " ++ failure_text names others

-- by exposed rules the rule fails on the text, and the line has the labels of that failure's names, and its
-- place
pub record IsMissing (g : Grammar) (rule text line : List ℕ) : Type 0 where
  pub furthest : ℕ
  pub fails : FailsIn (exposed g) rule text furthest
  pub failure : NamedAttempts
  pub found : IsFound (exposed g) rule text furthest failure
  pub says : line ≡ missing_text (line_column text failure.place)
      (labels_of (name_texts failure.positives.items)) (labels_of (name_texts failure.negatives.items))

-- so it is by the rules of a grammar, as they are run
abbrev pub IsMissingIn : RuleForm → (grammar rule text line : List ℕ) → Type 0
IsMissingIn form grammar rule text line =
    (rules : Grammar) × AreRun form grammar rules × IsMissing rules rule text line

-- the writer is the same, or such a line is written to it
abbrev pub TellsMissing : {X E : Type 0} → RuleForm → (grammar rule text : List ℕ) → Type 0 → Result X E
    → Option (List ℕ) → Option (List ℕ) → Type 0
TellsMissing form grammar rule text same written old new = same
    ⊎ ((line : List ℕ) × IsMissingIn form grammar rule text line × WritesLine line written old new)
