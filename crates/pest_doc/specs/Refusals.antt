-- The message that a grammar is refused.
use Rattle.std.specs.Prelude.{◌≡◌, ℕ, List, [], ◌++◌, None, Option, Some, codes, string_bytes}
use Rattle.std.specs.List.{zip}
use Rattle.lint_findings.specs.Reports.{ReportsRefusal}
use Rattle.lint_findings.specs.declared.diagnostic.Diagnostic.{Diagnostic}
use Rattle.lint_hints.specs.declared.help.Help.{Help}
use Rattle.base_language.specs.Pieces.PrintedError.{error_text}
use Rattle.base_language.specs.declared.grammar.Rule.{Rule}
use Rattle.base_language.specs.declared.runtime.errors.Error.{Error}
use Rattle.pest_meta.specs.Opening.{AreErrorsOf}
use Rattle.pest_meta.specs.declared.opened.OpenError.{OpenError}
use Rattle.program_support.specs.Escapes.{escaped_lines}
use Rattle.program_support.specs.Messages.{ArePartsOf, IsPlaced}

-- the line of a help, if there is one
abbrev pub help_line : Option Help → List ℕ
help_line None = []
help_line (Some help) = codes "help: " ++ (string_bytes help.message ++ codes "\n")

-- the part of an error and its diagnostic: the message and the help of this, and the place of that
pub record ShowsError (name : List ℕ) (error : Error Rule × Diagnostic) (part : List ℕ) : Type 0 where
  pub placed : List ℕ
  pub at_place : IsPlaced name (error_text error.0) placed
  pub whole : part ≡ codes "error: " ++ (string_bytes error.1.message
      ++ (codes "\n" ++ (placed ++ help_line error.1.help)))

-- a message of why a text is not opened, without hidden characters: its errors, one by one
pub record IsRefusal (name text : List ℕ) (reason : OpenError) (message : List ℕ) : Type 0 where
  pub errors : List (Error Rule)
  pub made : AreErrorsOf reason errors
  pub diagnostics : List Diagnostic
  pub reported : ReportsRefusal text reason diagnostics
  pub shown : List ℕ
  pub parts : ArePartsOf (ShowsError name) (zip errors diagnostics) shown
  pub escaped : message ≡ escaped_lines shown
