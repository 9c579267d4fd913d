-- The flaws that trees of a grammar's text may have, and the first of them.
use Rattle.std.specs.Prelude.{ℕ, ℤ, pos, negsuc, List, ◌^◌, Option, Some, None, Bool, true, false, not, if◌then◌else◌, bytes_eq, codes, nat_lt, nat_eq}
use Rattle.std.specs.Str.{all_scalars}
use Rattle.std.specs.Option.{option_or}
use Rattle.base_language.specs.Language.Text.{Text}
use Rattle.base_language.specs.Language.State.{Trees, None', Tree}
use Rattle.base_language.specs.Pieces.Saying.{piece}
use Rattle.front_spanned.specs.Spanned.{Span}
use Rattle.front_reader.specs.Reading.{number, integer, literal_value}

pub data Cause : Type 0 where
  NoScalarValue : Cause
  PastI32 : Cause
  PastU32 : Cause
  ZeroTimes : Cause

-- the cause of a flaw, and its span
pub record Flaw : Type 0 where
  pub cause : Cause
  pub span : Span

abbrev pub fits_i32 : ℤ → Bool
fits_i32 (pos n) = nat_lt n (2 ^ 31)
fits_i32 (negsuc n) = nat_lt n (2 ^ 31)

-- the trees in the first of the trees
abbrev pub first_inner : Trees → Trees
first_inner None' = None'
first_inner (Tree r i j inner us) = inner

-- the first of the trees is a closing brace
abbrev pub closes : Trees → Bool
closes None' = false
closes (Tree r i j inner us) = bytes_eq r (codes "closing_brace")

module _ (text : List ℕ) where
  -- the flaw at a place, if there is one
  abbrev pub flaw_if : Bool → Cause → ℕ → ℕ → Option Flaw
  flaw_if b cause i j = if b then Some (record { cause = cause; span = piece text i j }) else None

  -- a literal from i to j, with these trees in it, has an escape that is no character's number
  abbrev pub wrong_literal : ℕ → ℕ → Trees → Option Flaw
  wrong_literal i j us = flaw_if (not (all_scalars (literal_value text us))) NoScalarValue i j

  -- numbers that fit no u32, and no i32
  abbrev pub past_u32 : ℕ → ℕ → Option Flaw
  past_u32 i j = flaw_if (not (nat_lt (number text i j) (2 ^ 32))) PastU32 i j

  abbrev pub past_i32 : ℕ → ℕ → Option Flaw
  past_i32 i j = flaw_if (not (fits_i32 (integer text i j))) PastI32 i j

  -- the greatest number of repetitions fits a u32, and is not 0
  abbrev pub zero_times : ℕ → ℕ → Option Flaw
  zero_times i j = flaw_if (nat_eq (number text i j) 0) ZeroTimes i j

  abbrev pub not_a_count : ℕ → ℕ → Option Flaw
  not_a_count i j = option_or (past_u32 i j) (zero_times i j)

  -- the flaw of a number, by the trees after it: before a closing brace it is a greatest number of
  -- repetitions
  abbrev pub number_flaw : ℕ → ℕ → Trees → Option Flaw
  number_flaw i j others = if closes others then not_a_count i j else past_u32 i j

  -- the flaw of a tree of the rule r from i to j itself, by the trees in it and those after it
  unfoldable pub own_flaw : Text → ℕ → ℕ → Trees → Trees → Option Flaw
  own_flaw r i j inner others =
      if bytes_eq r (codes "string") then wrong_literal i j inner
      else (if bytes_eq r (codes "character") then wrong_literal i j inner
      else (if bytes_eq r (codes "insensitive_string") then wrong_literal i j (first_inner inner)
      else (if bytes_eq r (codes "integer") then past_i32 i j
      else (if bytes_eq r (codes "number") then number_flaw i j others
      else None))))

  -- the first flaw: of the first tree itself, in it, or after it
  abbrev pub first_flaw : Trees → Option Flaw
  first_flaw None' = None
  first_flaw (Tree r i j inner others) =
      option_or (own_flaw r i j inner others) (option_or (first_flaw inner) (first_flaw others))
