-- Why a grammar is not opened.
use Rattle.std.specs.Prelude.{◌≡◌, ◌≢◌, ℕ, List, [], ◌∷◌, Some, ⊤}
use Rattle.base_language.specs.Language.Expression.{Grammar}
use Rattle.base_language.specs.Language.State.{Trees}
use Rattle.base_language.specs.Pieces.Saying.{AreErrorsFor}
use Rattle.base_language.specs.declared.grammar.Rule.{Rule}
use Rattle.base_language.specs.declared.runtime.errors.Error.{Error}
use Rattle.front_names.specs.NameFindings.{told_by}
use Rattle.front_names.specs.declared.findings.NameError as names
use Rattle.front_names.specs.declared.findings.NameError.TheVariants as names_are
use Rattle.front_names.specs.declared.findings.NameFinding.{NameFinding}
use Rattle.front_nodes.specs.Forests.{forest_text}
use Rattle.front_nodes.specs.declared.forest.Forest.{Forest}
use Rattle.front_reader.specs.Flaws.{first_flaw}
use Rattle.front_reader.specs.Refusals.{ReportsFlaw}
use Rattle.front_reader.specs.Views.{flaw_of}
use Rattle.front_reader.specs.declared.rules.flaws.Flaw.{Flaw}
use Rattle.front_reader.specs.declared.rules.flaws.ReadError as read
use Rattle.front_reader.specs.declared.rules.flaws.ReadError.TheVariants as read_is
use Rattle.front_syntax.specs.Parses.{IsOfAGrammar}
use Rattle.front_validator.specs.Reporting.{findings_of}
use Rattle.front_validator.specs.declared.problems.RuleFinding.{RuleFinding}
use Rattle.pest_meta.specs.Findings.{AreFindings}
use Rattle.pest_meta.specs.Spelling.{AreReadAsRules, HasTrees, IsNoGrammar, complaints_in}
use Rattle.pest_meta.specs.declared.opened.OpenError.{OpenError}
use Rattle.pest_meta.specs.declared.opened.OpenError.TheVariants as error_is

-- all trees of the parse of a grammar's text
pub record IsForestOf (text : List ℕ) (forest : Forest) : Type 0 where
  pub of_text : forest_text forest ≡ text
  pub of_grammar : IsOfAGrammar forest

-- the findings are those of the names in a text's trees
pub record HasNameFindings (text : List ℕ) (findings : List NameFinding) : Type 0 where
  pub trees : Trees
  pub of_text : HasTrees text trees
  pub some : complaints_in text trees ≢ []
  pub told : told_by findings ≡ complaints_in text trees

-- the names in a text's trees are in order, and this is the first flaw
pub record HasFlaw (text : List ℕ) (flaw : Flaw) : Type 0 where
  pub trees : Trees
  pub of_text : HasTrees text trees
  pub well_named : complaints_in text trees ≡ []
  pub first : first_flaw text trees ≡ Some (flaw_of flaw)

-- the names in a text's trees are in order, and the findings are those of the rules that the trees give
pub record HasRuleFindings (text : List ℕ) (findings : List RuleFinding) : Type 0 where
  pub trees : Trees
  pub of_text : HasTrees text trees
  pub well_named : complaints_in text trees ≡ []
  pub rules : Grammar
  pub give : AreReadAsRules text trees rules
  pub some : findings ≢ []
  pub all : AreFindings give.read (findings_of findings)

-- the reason why a text is not opened, if its rules may be wrong: an allocation failure, or that for which
-- it is refused
abbrev pub IsUnvalidatedError : List ℕ → OpenError → Type 0
IsUnvalidatedError text (error_is.Memory e) = ⊤
IsUnvalidatedError text (error_is.Syntax error) = IsNoGrammar text (error ∷ [])
IsUnvalidatedError text (error_is.Names findings) = HasNameFindings text findings.items
IsUnvalidatedError text (error_is.Flaw flaw) = HasFlaw text flaw
IsUnvalidatedError text (error_is.Rules findings) = ⊥

-- the same if nothing may be found in its rules
abbrev pub IsOpenError : List ℕ → OpenError → Type 0
IsOpenError text (error_is.Rules findings) = HasRuleFindings text findings.items
IsOpenError text error = IsUnvalidatedError text error

-- the errors tell of this reason, one by one
abbrev pub AreErrorsOf : OpenError → List (Error Rule) → Type 0
AreErrorsOf (error_is.Memory e) errors = ⊥
AreErrorsOf (error_is.Syntax error) errors = errors ≡ error ∷ []
AreErrorsOf (error_is.Names findings) errors = AreErrorsFor (told_by findings.items) errors
AreErrorsOf (error_is.Flaw flaw) errors = ReportsFlaw (flaw_of flaw) errors
AreErrorsOf (error_is.Rules findings) errors = AreErrorsFor (findings_of findings.items) errors

-- the reason of an error about names, and of one of the reader
abbrev pub of_names : names.NameError → OpenError
of_names (names_are.Memory e) = error_is.Memory e
of_names (names_are.Found findings) = error_is.Names findings

abbrev pub of_read : read.ReadError → OpenError
of_read (read_is.Memory e) = error_is.Memory e
of_read (read_is.Found flaw) = error_is.Flaw flaw
