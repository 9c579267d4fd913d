-- What is read without a flaw fits its types: texts are texts, and numbers lie within their types.
use Rattle.std.proofs.Common.{◌≡◌, ℕ, ℤ, pos, negsuc, ◌<◌, ◌≤◌, ◌^◌, ◌⊎◌, inl, inr, List, [], ◌∷◌, None, Bool, true, false, not, if◌then◌else◌, refl, chars, codes, arith}
use Rattle.std.proofs.lemmas.Bool.{ltb-true}
use Rattle.std.proofs.lemmas.List.Elements.{All-nil, All-cons, All-tail}
use Rattle.std.proofs.lemmas.Str.{scalars-chars}
use Rattle.std.proofs.Math.Utf8.{scalar_cases}
use Rattle.std.specs.Char.{IsScalar}
use Rattle.std.specs.Prelude.{nat_lt}
use Rattle.std.specs.Str.{IsUtf8, all_scalars}
use Rattle.std.specs.Option.{option_or}
use Rattle.base_language.specs.Language.Text.{Text, IsText, IsScalarValue}
use Rattle.base_language.specs.Language.Expression.{Expression}
use Rattle.base_language.specs.Language.Grammar.{FitsItsTypes, FitsSigned32, FitsUnsigned32}
use Rattle.base_language.specs.Language.State.{Trees, None', Tree, joined}
use Rattle.base_language.proofs.Basics.{first_of_both, second_of_both}
use Rattle.front_spanned.specs.Erasure.{round, between}
use Rattle.front_spanned.specs.Spanned.{Unary, Binary, Seq, Choice}
use Rattle.front_reader.specs.Flaws.{Cause, own_flaw, closes, flaw_if, fits_i32, past_u32, past_i32, wrong_literal, zero_times, first_flaw}
use Rattle.front_reader.specs.Reading as reading
use Rattle.front_reader.specs.Reading.{Postfix, Terminal, behind_first, number, integer, literal_value}
use Rattle.front_reader.proofs.Flawless.{none_left, own_none, inner_none, behind_none, front_none}
use Rattle.front_reader.proofs.ReadParts.{IsHandedDown, IsGiven}
use Rattle.pest_meta.proofs.WholeCharacters.{OnCharacters}

scalar_value : (c : ℕ) → IsScalar c → IsScalarValue c
scalar_value c h = go (scalar_cases c h)
  where
    go : (c < 55296) ⊎ ((57344 ≤ c) × (c < 1114112)) → IsScalarValue c
    go (inl l) = inl l
    go (inr g) = inr (omega (arith, g.0), g.1)

-- a list of scalar values is a text
is_text : (t : List ℕ) → all_scalars t ≡ true → IsText t
is_text [] h = All-nil IsScalarValue
is_text (c ∷ t) h =
    All-cons IsScalarValue c t (scalar_value c (first_of_both _ (all_scalars t) h)) (is_text t (second_of_both _ (all_scalars t) h))

pub characters_are_text : (b : List ℕ) → IsUtf8 b → IsText (chars b)
characters_are_text b u = is_text (chars b) (scalars-chars b u)

behind_is_text : (t : List ℕ) → IsText t → IsText (behind_first t)
behind_is_text [] h = h
behind_is_text (c ∷ t) h = All-tail IsScalarValue c t h

module _ (text : List ℕ) where
  -- trees without a flaw, on characters
  abbrev pub AreSound : Trees → Type 0
  AreSound us = (first_flaw text us ≡ None) × OnCharacters text us

  not_flawed : (b : Bool) (cause : Cause) (i j : ℕ) → flaw_if text (not b) cause i j ≡ None → b ≡ true
  not_flawed true cause i j h = refl
  not_flawed false cause i j h = cc

  front_on_characters : (us vs : Trees) → OnCharacters text (joined us vs) → OnCharacters text us
  front_on_characters None' vs h = tt
  front_on_characters (Tree r i j inner us) vs h = (h.0, h.1, front_on_characters us vs h.2)

  pub handed_down : IsHandedDown AreSound
  handed_down = record {
    inner = λ r i j us vs h. (inner_none text r i j us vs h.0, h.1.1);
    behind = λ r i j us vs h. (behind_none text r i j us vs h.0, h.1.2);
    front = λ us vs c h. (front_none text us vs c h.0, front_on_characters us vs h.1);
  }

  right_literal : (i j : ℕ) (us : Trees) → wrong_literal text i j us ≡ None → IsText (literal_value text us)
  right_literal i j us h = is_text (literal_value text us) (not_flawed (all_scalars (literal_value text us)) _ i j h)

  within_u32 : (i j : ℕ) → past_u32 text i j ≡ None → FitsUnsigned32 (number text i j)
  within_u32 i j h = ltb-true (number text i j) (2 ^ 32) (not_flawed (nat_lt (number text i j) (2 ^ 32)) _ i j h)

  signed_fits : (n : ℤ) → fits_i32 n ≡ true → FitsSigned32 n
  signed_fits (pos n) h = ltb-true n (2 ^ 31) h
  signed_fits (negsuc n) h = ltb-true n (2 ^ 31) h

  within_i32 : (i j : ℕ) → past_i32 text i j ≡ None → FitsSigned32 (integer text i j)
  within_i32 i j h = signed_fits (integer text i j) (not_flawed (fits_i32 (integer text i j)) _ i j h)

  -- whatever is behind a number, it fits
  number_fits : (i j : ℕ) (us vs : Trees) → own_flaw text (codes "number") i j us vs ≡ None → FitsUnsigned32 (number text i j)
  unfolding own_flaw
  number_fits i j us vs h = go (closes vs) h
    where
      go : (b : Bool) → (if b then option_or (past_u32 text i j) (zero_times text i j) else past_u32 text i j) ≡ None → FitsUnsigned32 (number text i j)
      go true h = within_u32 i j (none_left _ _ h)
      go false h = within_u32 i j h

  integer_fits : (i j : ℕ) (us vs : Trees) → own_flaw text (codes "integer") i j us vs ≡ None → FitsSigned32 (integer text i j)
  unfolding own_flaw
  integer_fits i j us vs h = within_i32 i j h

  string_fits : (i j : ℕ) (us vs : Trees) → own_flaw text (codes "string") i j us vs ≡ None → IsText (literal_value text us)
  unfolding own_flaw
  string_fits i j us vs h = right_literal i j us h

  character_fits : (i j : ℕ) (us vs : Trees) → own_flaw text (codes "character") i j us vs ≡ None → IsText (literal_value text us)
  unfolding own_flaw
  character_fits i j us vs h = right_literal i j us h

  terminal_fits : {r : Text} {i j : ℕ} {us : Trees} {e : Expression} (vs : Trees)
      → Terminal text r i j us e → AreSound (Tree r i j us vs) → FitsItsTypes e
  terminal_fits vs reading.identifier h = characters_are_text _ h.1.0
  terminal_fits {i = i} {j = j} {us = us} vs reading.string h = string_fits i j us vs (own_none text _ i j us vs h.0)
  terminal_fits vs (reading.insensitive {string_at = i} {string_to = j} {us = us} {vs = behind}) h =
      string_fits i j us behind (own_none text _ i j us behind (inner_none text _ _ _ _ vs h.0))
  terminal_fits vs (reading.range {low_at = i} {low_to = j} {high_at = k} {high_to = l} {us = low} {vs = high}) h =
      let inner = inner_none text _ _ _ _ vs h.0 in
      let last = behind_none text _ _ _ None' _ (behind_none text _ i j low _ inner) in
      (character_fits i j low _ (own_none text _ i j low _ inner), character_fits k l high None' (own_none text _ k l high None' last))
  terminal_fits vs reading.slice h = (omega arith, tt)
  terminal_fits vs (reading.slice_from {low_at = i} {low_to = j}) h =
      let inner = behind_none text _ _ _ None' _ (inner_none text _ _ _ _ vs h.0) in
      (integer_fits i j None' _ (own_none text _ i j None' _ inner), tt)
  terminal_fits vs (reading.slice_to {high_at = k} {high_to = l}) h =
      let inner = behind_none text _ _ _ None' _ (behind_none text _ _ _ None' _ (inner_none text _ _ _ _ vs h.0)) in
      (omega arith, integer_fits k l None' _ (own_none text _ k l None' _ inner))
  terminal_fits vs (reading.slice_between {low_at = i} {low_to = j} {high_at = k} {high_to = l}) h =
      let inner = behind_none text _ _ _ None' _ (inner_none text _ _ _ _ vs h.0) in
      let last = behind_none text _ _ _ None' _ (behind_none text _ i j None' _ inner) in
      (integer_fits i j None' _ (own_none text _ i j None' _ inner), integer_fits k l None' _ (own_none text _ k l None' _ last))

  postfix_fits : {r : Text} {us : Trees} {f : Unary} → Postfix text r us f → AreSound us → (e : Expression)
      → FitsItsTypes (round f e)
  postfix_fits reading.opt h e = tt
  postfix_fits reading.rep h e = tt
  postfix_fits reading.rep_once h e = tt
  postfix_fits (reading.exact {number_at = i} {number_to = j}) h e =
      number_fits i j None' _ (own_none text _ i j None' _ (behind_none text _ _ _ None' _ h.0))
  postfix_fits (reading.min {number_at = i} {number_to = j}) h e =
      number_fits i j None' _ (own_none text _ i j None' _ (behind_none text _ _ _ None' _ h.0))
  postfix_fits (reading.max {number_at = i} {number_to = j}) h e =
      number_fits i j None' _ (own_none text _ i j None' _ (behind_none text _ _ _ None' _ (behind_none text _ _ _ None' _ h.0)))
  postfix_fits (reading.min_max {least_at = i} {least_to = j} {most_at = k} {most_to = l}) h e =
      let least = behind_none text _ _ _ None' _ h.0 in
      let most = behind_none text _ _ _ None' _ (behind_none text _ i j None' _ least) in
      (number_fits i j None' _ (own_none text _ i j None' _ least), number_fits k l None' _ (own_none text _ k l None' _ most))

  between_fits : (f : Binary) (a b : Expression) → FitsItsTypes (between f a b)
  between_fits Seq a b = tt
  between_fits Choice a b = tt

  pub fits_given : IsGiven text AreSound FitsItsTypes
  fits_given = record {
    terminal = λ vs t h. terminal_fits vs t h;
    postfix = λ p h e. postfix_fits p h e;
    positive = λ e. tt;
    negative = λ e. tt;
    push = λ e. tt;
    literal_push = λ vs h. string_fits _ _ _ vs (own_none text _ _ _ _ vs h.0);
    tag = λ us h e. behind_is_text _ (characters_are_text _ h.1.0);
    between_two = between_fits;
  }
