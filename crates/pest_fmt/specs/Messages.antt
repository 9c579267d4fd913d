-- The message that a text is no grammar.
use Rattle.std.specs.Prelude.{◌≡◌, ℕ, List, ◌++◌, codes}
use Rattle.base_language.specs.Pieces.PrintedError.{error_text}
use Rattle.base_language.specs.declared.grammar.Rule.{Rule}
use Rattle.base_language.specs.declared.runtime.errors.Error.{Error}
use Rattle.program_support.specs.Escapes.{escaped_bytes, escaped_lines}
use Rattle.program_support.specs.Messages.{ArePartsOf, IsPlaced, TellsSyntax}

-- that a file is left alone, with what was expected and what was found, and the place
pub record TellsError (name : List ℕ) (error : Error Rule) (part : List ℕ) : Type 0 where
  pub told : List ℕ
  pub placed : List ℕ
  pub tells : TellsSyntax told
  pub at_place : IsPlaced name (error_text error) placed
  pub whole : part ≡ codes "cannot format " ++ (name ++ (codes ": " ++ (told ++ (codes "\n" ++ placed))))

-- a message of errors, without hidden characters
abbrev pub IsRefusal : List ℕ → List (Error Rule) → List ℕ → Type 0
IsRefusal name errors message =
    (text : List ℕ) × ArePartsOf (TellsError (escaped_bytes name)) errors text
    × (message ≡ escaped_lines text)
