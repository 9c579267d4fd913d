-- When two positions or two errors are equal, and the order of the rules.
use Rattle.std.specs.Prelude.{◌≡◌, List, ◌∷◌, ⊤, string_bytes}
use Rattle.base_language.specs.Pieces.MetaRules.{meta_rules}
use Rattle.base_language.specs.Pieces.PrintedError.{error_line}
use Rattle.base_language.specs.Pieces.Span.{position_text, position_offset}
use Rattle.base_language.specs.declared.grammar.Rule.{Rule}
use Rattle.base_language.specs.declared.grammar.Rule.TheVariants.{EOI}
use Rattle.base_language.specs.declared.runtime.errors.Error.{Error}
use Rattle.base_language.specs.declared.runtime.errors.ErrorVariant.{ErrorVariant}
use Rattle.base_language.specs.declared.runtime.errors.ErrorVariant.TheVariants.{ParsingError, CustomError}
use Rattle.base_language.specs.declared.runtime.places.Position.{Position}

-- the rules from the least to the greatest: EOI, and then those of the meta-grammar
abbrev pub ascending_rules : List Rule
ascending_rules = EOI ∷ meta_rules

-- equal positions in texts of the same bytes
pub record SamePlace (a b : Position) : Type 0 where
  pub offset : position_offset a ≡ position_offset b
  pub text : position_text a ≡ position_text b

-- neither has a message of its own, or both have, and the same
abbrev pub SaySame : ErrorVariant → ErrorVariant → Type 0
SaySame ParsingError ParsingError = ⊤
SaySame (CustomError m) (CustomError n) = string_bytes m ≡ string_bytes n
SaySame _ _ = ⊥

-- errors with equal messages, positions and printed lines
pub record SameError {R : Type 0} (a b : Error R) : Type 0 where
  pub variant : SaySame a.variant b.variant
  pub location : a.location ≡ b.location
  pub line_col : a.line_col ≡ b.line_col
  pub line : error_line a ≡ error_line b
