-- A span is a piece of its text.
use Rattle.std.proofs.Common.{◌≡◌, List, ℕ, subst}
use Rattle.base_language.specs.Pieces.Span.{span_text, span_start, span_end}
use Rattle.base_language.specs.declared.runtime.places.Span.{Span}
use Rattle.front_reader.specs.Pieces.{IsPiece}

pub piece_facts : (s : Span) → IsPiece (span_text s) (span_start s) (span_end s)
piece_facts s = record { starts = s.starts_at_character; ends = s.ends_at_character; order = s.ordered }

pub piece_in : (s : Span) {text : List ℕ} → span_text s ≡ text → IsPiece text (span_start s) (span_end s)
piece_in s {text} e = subst (λ t. IsPiece t (span_start s) (span_end s)) e (piece_facts s)
