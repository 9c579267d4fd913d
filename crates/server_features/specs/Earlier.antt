-- Warnings of an earlier text that stay in a later one.
use Rattle.std.specs.Prelude.{◌≡◌, ◌≢◌, ◌≤◌, ◌+◌, ◌-◌, ℕ, List, [], All, Any, Option, false, option_map, string_bytes}
use Rattle.lint_findings.specs.Reports.{is_error}
use Rattle.lint_findings.specs.declared.diagnostic.Diagnostic.{Diagnostic}
use Rattle.lint_hints.specs.declared.help.Help.{Help}
use Rattle.lint_hints.specs.declared.help.Related.{Related}
use Rattle.server_features.specs.declared.earlier.Move.{Move}
use Rattle.server_features.specs.declared.earlier.Moves.{Moves}
use Rattle.server_requests.specs.Shown.{shown}
use Rattle.server_symbols.specs.declared.tokens.Extent.{Extent}

-- a part of the earlier text, and one of the same bytes in the later text
abbrev pub IsSame : List ℕ → List ℕ → Extent → Extent → Type 0
IsSame before after from to = (shown before from ≡ shown after to) × (shown before from ≢ [])

abbrev pub IsMove : List ℕ → List ℕ → Move → Type 0
IsMove before after place = IsSame before after place.from place.to

abbrev pub AreMoves : Moves → Type 0
AreMoves moves = All (IsMove moves.earlier.now moves.text.now) moves.moves.items

-- the bytes from `start` up to `end` are in a definition that is moved, and have this place there
pub record IsShifted (place : Move) (start end : ℕ) (extent : Extent) : Type 0 where
  pub begins : place.from.start ≤ start
  pub ordered : start ≤ end
  pub ends : end ≤ place.from.end
  pub start_at : extent.start ≡ place.to.start + (start - place.from.start)
  pub end_at : extent.end ≡ place.to.start + (end - place.from.start)

-- the bytes from `start` up to `end` of the earlier text are in a part that the later text has, and are
-- those from `first` up to `last` there
pub record IsMoved (before after : List ℕ) (start end first last : ℕ) : Type 0 where
  pub place : Move
  pub same : IsMove before after place
  pub shifted : IsShifted place start end (record { start = first; end = last })

-- another part that matters to a diagnostic is moved
abbrev pub IsMovedPart : List ℕ → List ℕ → Related → Related → Type 0
IsMovedPart before after old new = IsMoved before after old.start old.end new.start new.end
    × (string_bytes new.message ≡ string_bytes old.message)

-- one of these parts is moved to it
abbrev pub IsMovedAmong : List ℕ → List ℕ → List Related → Related → Type 0
IsMovedAmong before after olds new = Any (λ old. IsMovedPart before after old new) olds

abbrev pub help_message : Option Help → Option (List ℕ)
help_message help = option_map (λ h. string_bytes h.message) help

-- a warning of the earlier text stays in the later one, and says the same of the same bytes
pub record Stays (before after : List ℕ) (old new : Diagnostic) : Type 0 where
  pub warns : is_error old ≡ false
  pub severity : new.severity ≡ old.severity
  pub code : new.code ≡ old.code
  pub message : string_bytes new.message ≡ string_bytes old.message
  pub help : help_message new.help ≡ help_message old.help
  pub place : IsMoved before after old.start old.end new.start new.end
  pub related : All (IsMovedAmong before after old.related.items) new.related.items

-- one of these diagnostics is a warning that stays as it
abbrev pub StaysAmong : List ℕ → List ℕ → List Diagnostic → Diagnostic → Type 0
StaysAmong before after olds new = Any (λ old. Stays before after old new) olds
