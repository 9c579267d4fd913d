-- Errors with equal messages and locations.
use Rattle.std.specs.Prelude.{◌≡◌, List}
use Rattle.std.specs.List.{AllZip}
use Rattle.base_language.specs.Pieces.PrintedError.{error_line, message_of}
use Rattle.base_language.specs.declared.grammar.Rule.{Rule}
use Rattle.base_language.specs.declared.runtime.errors.Error.{Error}

-- two errors have the same message and the same location, of which they print the same line
pub record IsAlike (error other : Error Rule) : Type 0 where
  pub message : message_of error.variant ≡ message_of other.variant
  pub location : error.location ≡ other.location
  pub line_col : error.line_col ≡ other.line_col
  pub line : error_line error ≡ error_line other

-- both lists have as many errors, and errors at one index are alike
abbrev pub AreAlike : List (Error Rule) → List (Error Rule) → Type 0
AreAlike errors others = AllZip IsAlike errors others
