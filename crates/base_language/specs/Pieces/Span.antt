-- Views of a span and of a position.
use Rattle.std.specs.Prelude.{ℕ, List}
use Rattle.base_language.specs.declared.runtime.places.Span.{Span}
use Rattle.base_language.specs.declared.runtime.places.Position.{Position}

-- the text that a span is a part of, as bytes
abbrev pub span_text : Span → List ℕ
span_text span = span.text.now

-- the byte at which a span begins
abbrev pub span_start : Span → ℕ
span_start span = span.start

-- the byte before which a span ends
abbrev pub span_end : Span → ℕ
span_end span = span.end

-- the text of a position, as bytes
abbrev pub position_text : Position → List ℕ
position_text position = position.text.now

-- a position, in bytes from the start of its text
abbrev pub position_offset : Position → ℕ
position_offset position = position.pos
