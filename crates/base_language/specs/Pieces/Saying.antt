-- Pieces of a text, and errors that say something of them.
use Rattle.std.specs.Prelude.{◌≡◌, ℕ, List, slice_range, string_bytes}
use Rattle.std.specs.List.{AllZip}
use Rattle.base_language.specs.Pieces.LineColumn.{line_column}
use Rattle.base_language.specs.Pieces.PrintedError.{error_line, printed_line}
use Rattle.base_language.specs.Pieces.Span.{span_text, span_start, span_end}
use Rattle.base_language.specs.declared.grammar.Rule.{Rule}
use Rattle.base_language.specs.declared.runtime.errors.Error.{Error}
use Rattle.base_language.specs.declared.runtime.errors.ErrorVariant.{ErrorVariant}
use Rattle.base_language.specs.declared.runtime.errors.ErrorVariant.TheVariants.{ParsingError, CustomError}
use Rattle.base_language.specs.declared.runtime.errors.InputLocation.TheVariants as at
use Rattle.base_language.specs.declared.runtime.errors.LineColLocation.TheVariants as in_lines
use Rattle.base_language.specs.declared.runtime.places.Span as code_span

-- the piece of a text from the byte `start` to the byte `end`
pub record Span : Type 0 where
  pub text : List ℕ
  pub start : ℕ
  pub end : ℕ

abbrev pub piece : List ℕ → ℕ → ℕ → Span
piece text i j = record { text = text; start = i; end = j }

-- the piece of the text that a span of code is
abbrev pub piece_of : code_span.Span → Span
piece_of s = record { text = span_text s; start = span_start s; end = span_end s }

-- the text of a piece
abbrev pub written : Span → List ℕ
written span = slice_range span.text span.start span.end

-- an error with a message of its own, which is this one
abbrev pub HasMessage : List ℕ → ErrorVariant → Type 0
HasMessage message ParsingError = ⊥
HasMessage message (CustomError own) = string_bytes own ≡ message

-- the error has this message and this piece, of which it prints the first line
pub record IsErrorAt (message : List ℕ) (span : Span) (error : Error Rule) : Type 0 where
  pub variant : HasMessage message error.variant
  pub location : error.location ≡ at.Span (span.start, span.end)
  pub line_col : error.line_col
      ≡ in_lines.Span (line_column span.text span.start) (line_column span.text span.end)
  pub line : error_line error ≡ printed_line span.text span.start

-- the message and the piece of an error
pub record Complaint : Type 0 where
  pub message : List ℕ
  pub span : Span

-- the errors have just these messages and pieces, in this order
abbrev pub AreErrorsFor : List Complaint → List (Error Rule) → Type 0
AreErrorsFor complaints errors =
    AllZip (λ complaint error. IsErrorAt complaint.message complaint.span error) complaints errors
