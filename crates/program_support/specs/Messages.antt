-- Messages of errors.
use Rattle.std.specs.Prelude.{◌≡◌, ◌⊎◌, ℕ, List, [], ◌++◌, None, Option, Some, codes, decimal}
use Rattle.std.specs.List.{AllZip, concat}
use Rattle.base_language.specs.Pieces.PrintedError.{error_text, message_of, start_of}
use Rattle.base_language.specs.declared.grammar.Rule.{Rule}
use Rattle.base_language.specs.declared.runtime.errors.Error.{Error}
use Rattle.program_support.specs.Escapes.{escaped_bytes, escaped_lines}
use Rattle.program_support.specs.Excerpts.{IsExcerpt, margin}

-- a line and a column after a text, and lines below
abbrev pub placed_lines : List ℕ → ℕ × ℕ → List ℕ → List ℕ
placed_lines prefix start lines = margin start.0 ++ (codes "--> " ++ (prefix ++ (decimal start.0
    ++ (codes ":" ++ (decimal start.1 ++ (codes "\n" ++ lines))))))

-- such lines, and a message
abbrev pub error_lines : List ℕ → ℕ × ℕ → List ℕ → List ℕ → List ℕ
error_lines prefix start lines message = placed_lines prefix start lines
    ++ (margin start.0 ++ (codes " |\n" ++ (margin start.0 ++ (codes " = " ++ message))))

-- the name of a file and a colon, or nothing without a file
abbrev pub file_prefix : Option (List ℕ) → List ℕ
file_prefix None = []
file_prefix (Some name) = escaped_bytes name ++ codes ":"

-- of a printed error: the name of its file, the place at which it begins, and an excerpt of its line
pub record IsPlaced (name printed placed : List ℕ) : Type 0 where
  pub error : Error Rule
  pub lines : List ℕ
  pub prints : printed ≡ error_text error
  pub excerpt : IsExcerpt error lines
  pub whole : placed ≡ placed_lines (name ++ codes ":") (start_of error.line_col) lines

-- an error as it is shown: the name of its file, if there is one, the place, an excerpt of its line, and its
-- message, with escapes of hidden characters
pub record ShowsError (file : Option (List ℕ)) (error : Error Rule) (shown : List ℕ) : Type 0 where
  pub lines : List ℕ
  pub excerpt : IsExcerpt error lines
  pub whole : shown ≡ error_lines (file_prefix file) (start_of error.line_col) lines
      (escaped_lines (message_of error.variant))

-- an error after an empty line
pub record ShowsNext (error : Error Rule) (part : List ℕ) : Type 0 where
  pub shown : List ℕ
  pub shows : ShowsError None error shown
  pub whole : part ≡ codes "\n\n" ++ shown

-- a text of parts, one for each element of a list
abbrev pub ArePartsOf : {X : Type 0} → (X → List ℕ → Type 0) → List X → List ℕ → Type 0
ArePartsOf P xs text = (parts : List (List ℕ)) × AllZip P xs parts × (text ≡ concat parts)

-- a report: `grammar error`, and the errors, each after an empty line
pub record IsReport (errors : List (Error Rule)) (report : List ℕ) : Type 0 where
  pub parts : List ℕ
  pub each : ArePartsOf ShowsNext errors parts
  pub whole : report ≡ codes "grammar error" ++ parts

-- that nothing can go on with what is found, and that names are expected in its place
abbrev pub unexpected_text : List ℕ → List ℕ
unexpected_text found = codes "nothing of a grammar can go on with " ++ found

abbrev pub expected_text : List ℕ → List ℕ → List ℕ
expected_text names found = codes "expected " ++ (names ++ (codes ", and found " ++ found))

-- the sentence of a syntax error is one of these
abbrev pub TellsSyntax : List ℕ → Type 0
TellsSyntax message = ((found : List ℕ) × (message ≡ unexpected_text found))
    ⊎ ((names found : List ℕ) × (message ≡ expected_text names found))
