-- Texts for which the two forms of a grammar's rules differ.
use Rattle.std.specs.Prelude.{◌⊎◌, List, ℕ, Option, Result}
use Rattle.std.specs.Str.{chars}
use Rattle.base_language.specs.Language.Expression.{Grammar}
use Rattle.base_language.specs.Language.State.{State, Success, Trees}
use Rattle.matcher_support.specs.Sets.{is_in_property}
use Rattle.matcher_program.specs.Answers.{Has}
use Rattle.pest_run.specs.Messages.{optimized_text}
use Rattle.pest_run.specs.Written.{AreMatched, WritesLine}
use Rattle.pest_run.specs.declared.arguments.RuleForm.{RuleForm}
use Rattle.pest_run.specs.declared.arguments.RuleForm.TheVariants as form_is

-- the rule of a name, called at the start of the text, succeeds
pub record HasMatch (g : Grammar) (rule text : List ℕ) : Type 0 where
  pub end_ : State
  pub trees : Trees
  pub matches : Has g (chars rule) text is_in_property (Success end_ trees)

-- the rule of the grammar in that form matches the text
pub record IsMatchedBy (form : RuleForm) (grammar rule text : List ℕ) : Type 0 where
  pub rules : Grammar
  pub matched : AreMatched form grammar rules
  pub match_of : HasMatch rules rule text

-- the writer is the same, or the optimized rules match the text, and the line says so
abbrev pub TellsForms : {X E : Type 0} → List ℕ → List ℕ → List ℕ → Type 0 → Result X E
    → Option (List ℕ) → Option (List ℕ) → Type 0
TellsForms grammar rule text same written old new = same
    ⊎ (IsMatchedBy form_is.Optimized grammar rule text × WritesLine optimized_text written old new)
