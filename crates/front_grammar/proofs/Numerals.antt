-- What numbers and integers take are digits.
use Rattle.std.proofs.Common.{◌≡◌, refl, sym, ◌∙◌, ap, ℕ, zero, suc, ◌+◌, ◌-◌, ◌<◌, ◌≤◌, List, [], ◌∷◌, ◌++◌, ◌⊎◌, inl, inr, true, false, nat_eq, nat_le, length, arith, codes, length-append, chars}
use Rattle.std.proofs.lemmas.Bool.{leb-true, eqb-true, ne_eqb}
use Rattle.std.proofs.lemmas.Str.{digit_value_digit, encodes-chars, encodes-append, encodes-IsAscii, IsAscii-append}
use Rattle.std.proofs.lemmas.Str.Parse.{digit_from_value}
use Rattle.std.proofs.lemmas.Fmt.{IsAscii-from_digits}
use Rattle.std.proofs.Math.Seq.{drop-append_seam, take-append_seam}
use Rattle.std.proofs.Math.Utf8.{encodes}
use Rattle.std.specs.Char.{digit_value}
use Rattle.std.specs.List.{slice_range}
use Rattle.std.specs.Str.{IsUtf8, IsAscii}
use Rattle.std.specs.Str.Parse.{AllDigits, IsNumeral, without_leading_sign, without_leading_plus}
use Rattle.base_language.specs.Language.Text.{Text}
use Rattle.base_language.specs.Language.State.{State}
use Rattle.base_language.specs.Language.Builtins.{is_between}
use Rattle.base_language.specs.Language.Places.{IsStateIn}
use Rattle.base_language.specs.Language.Expression.{Str, Range}
use Rattle.base_language.specs.declared.grammar.Rule.TheVariants as is
use Rattle.base_language.proofs.InBytes.{sizes}
use Rattle.base_language.proofs.Basics.{first_of_both, second_of_both}
use Rattle.front_grammar.specs.MetaGrammar.{body_of}
use Rattle.front_grammar.specs.Shape.{IsNumber, IsInteger}
use Rattle.front_grammar.proofs.Taken.{Took, Stretch, Steps, stay, step, Takes, took_both, took_nothing, IsOne, one_taken, begins_first}

digit : (a c : ℕ) → 48 ≤ a → is_between a 57 c ≡ true → digit_value c < 10
digit a c k h =
    let i : a ≤ c = leb-true a c (first_of_both (nat_le a c) (nat_le c 57) h) in
    let j : c ≤ 57 = leb-true c 57 (second_of_both (nat_le a c) (nat_le c 57) h) in
    omega (arith, digit_value_digit c (omega arith, j))

no_digits_yet : (s : State) → Stretch (AllDigits 10) s s
no_digits_yet s = record { word = []; kind = tt; took = took_nothing s }

AllDigits-append : (v w : Text) → AllDigits 10 v → AllDigits 10 w → AllDigits 10 (v ++ w)
AllDigits-append [] w h k = k
AllDigits-append (c ∷ v) w h k = (h.0, AllDigits-append v w h.1 k)

one_digit : (a : ℕ) (s u : State) → 48 ≤ a → Stretch (IsOne (is_between a 57)) s u → Stretch (AllDigits 10) s u
one_digit a s u h x = record { word = x.word; kind = rw x.kind.1 (digit a x.kind.0 h x.kind.2, tt); took = x.took }

joined_digits : {s t u : State} → Stretch (AllDigits 10) s t → Stretch (AllDigits 10) t u → Stretch (AllDigits 10) s u
joined_digits a b = record { word = a.word ++ b.word; kind = AllDigits-append a.word b.word a.kind b.kind; took = took_both a.took b.took }

more_digits : (P : Text → Type 0) {s u : State} → Steps (Takes P (Range (codes "0") (codes "9"))) s u → Stretch (AllDigits 10) s u
more_digits P (stay {s = s}) = no_digits_yet s
more_digits P (step {s = s} {t = t} h r) = joined_digits (one_digit 48 s t (omega arith) (one_taken (is_between 48 57) s t h.0 h.1)) (more_digits P r)

zero_taken : (P : Text → Type 0) (s u : State) → Takes P (Str (codes "0")) s u → Stretch (AllDigits 10) s u
zero_taken P s u h =
    let x = one_taken (λ d. nat_eq 48 d) s u (sym (begins_first 48 s.rest) ∙ h.0) h.1 in
    record { word = x.word; kind = rw x.kind.1 (zero_digit x.kind.0 x.kind.2, tt); took = x.took }
  where
    zero_digit : (c : ℕ) → nat_eq 48 c ≡ true → digit_value c < 10
    zero_digit c h = let e = eqb-true 48 c h in rw (← e) (omega arith)

zeros : (P : Text → Type 0) {s u : State} → Steps (Takes P (Str (codes "0"))) s u → Stretch (AllDigits 10) s u
zeros P (stay {s = s}) = no_digits_yet s
zeros P (step {s = s} {t = t} h r) = joined_digits (zero_taken P s t h) (zeros P r)

not_empty : (v w : Text) → 0 < length w → 0 < length (v ++ w)
not_empty v w h = omega (arith, length-append v w)

-- a digit, and more behind it
abbrev Numeral : State → State → Type 0
Numeral s u = Stretch (IsNumeral 10) s u

one_numeral : (a : ℕ) (s u : State) → 48 ≤ a → Stretch (IsOne (is_between a 57)) s u → Numeral s u
one_numeral a s u h x = record { word = x.word; kind = rw x.kind.1 (omega arith, (digit a x.kind.0 h x.kind.2, tt)); took = x.took }

numeral_after : {s t u : State} → Stretch (AllDigits 10) s t → Numeral t u → Numeral s u
numeral_after a b = record { word = a.word ++ b.word; kind = (not_empty a.word b.word b.kind.0, AllDigits-append a.word b.word a.kind b.kind.1); took = took_both a.took b.took }

numeral_before : {s t u : State} → Numeral s t → Stretch (AllDigits 10) t u → Numeral s u
numeral_before a b =
    record {
      word = a.word ++ b.word;
      kind = (let h = a.kind.0 in omega (arith, length-append a.word b.word), AllDigits-append a.word b.word a.kind.1 b.kind);
      took = took_both a.took b.took;
    }

pub number_taken : (P : Text → Type 0) (s u : State) → Takes P (body_of is.number) s u → Numeral s u
number_taken P s u (t, h, r) = numeral_before (one_numeral 48 s t (omega arith) (one_taken (is_between 48 57) s t h.0 h.1)) (more_digits P r)

-- a numeral does not begin with a sign
digit_is_no_sign : (c d : ℕ) → d < 48 → digit_value c < 10 → nat_eq c d ≡ false
digit_is_no_sign c d h k = let i = digit_from_value c k in ne_eqb c d (omega (arith, i.0))

unsigned : (w : Text) → IsNumeral 10 w → without_leading_plus w ≡ w
unsigned [] h = absurd (omega (arith, h.0))
unsigned (c ∷ w) h = rw (digit_is_no_sign c 43 (omega arith) h.1.0) refl

without_sign : (w : Text) → IsNumeral 10 w → without_leading_sign w ≡ w
without_sign [] h = absurd (omega (arith, h.0))
without_sign (c ∷ w) h = rw (digit_is_no_sign c 45 (omega arith) h.1.0) (unsigned (c ∷ w) h)

-- digits, or a sign and digits, in one byte each
pub record IsSigned (w : Text) : Type 0 where
  pub ascii : IsAscii w
  pub digits : IsNumeral 10 (without_leading_sign w)

signed_numeral : {s u : State} → Numeral s u → Stretch IsSigned s u
signed_numeral x = record {
  word = x.word;
  kind = record { ascii = IsAscii-from_digits x.word x.kind.1; digits = rw (without_sign x.word x.kind) x.kind };
  took = x.took;
}

minus_taken : (P : Text → Type 0) (s u : State) → Takes P (Str (codes "-")) s u → Stretch (λ w. w ≡ 45 ∷ []) s u
minus_taken P s u h =
    let x = one_taken (λ d. nat_eq 45 d) s u (sym (begins_first 45 s.rest) ∙ h.0) h.1 in
    let e = eqb-true 45 x.kind.0 x.kind.2 in
    record { word = x.word; kind = rw (x.kind.1, ← e) refl; took = x.took }

minus_is_ascii : IsAscii (45 ∷ [])
minus_is_ascii zero = omega arith
minus_is_ascii (suc i) = omega arith

signed : {s t u : State} → Stretch (λ w. w ≡ 45 ∷ []) s t → Numeral t u → Stretch IsSigned s u
signed a b =
    record {
      word = a.word ++ b.word;
      kind = rw a.kind (record { ascii = IsAscii-append (45 ∷ []) b.word minus_is_ascii (IsAscii-from_digits b.word b.kind.1); digits = b.kind });
      took = took_both a.took b.took;
    }

maybe_more : {s u : State} → (s ≡ u) ⊎ (codes "number" ≡ codes "number" → Numeral s u) → Stretch (AllDigits 10) s u
maybe_more {s} {u} (inl e) = rw e (no_digits_yet u)
maybe_more (inr f) = let x = f refl in record { word = x.word; kind = x.kind.1; took = x.took }

pub integer_taken : (s u : State) → Takes (IsNumeral 10) (body_of is.integer) s u → Stretch IsSigned s u
integer_taken s u (inl f) = signed_numeral (f refl)
integer_taken s u (inr (t, (v, (w, m, z), h), more)) =
    signed (minus_taken (IsNumeral 10) s w m)
    (numeral_after (zeros (IsNumeral 10) z) (numeral_before (one_numeral 49 v t (omega arith) (one_taken (is_between 49 57) v t h.0 h.1)) (maybe_more more)))

pub middle : (a b c text : List ℕ) (i j : ℕ) → text ≡ a ++ (b ++ c) → i ≡ length a → j ≡ i + length b → slice_range text i j ≡ b
middle a b c text i j e h k =
    let d : j - i ≡ length b = omega arith in
    rw (d, e, h, drop-append_seam a (b ++ c), take-append_seam b c) refl

module _ (text : List ℕ) (utf8 : IsUtf8 text) (s u : State) (stands : IsStateIn (chars text) s) where
  slice_taken : (w : Text) → IsAscii w → Took s u w → slice_range text s.position u.position ≡ w
  slice_taken w ascii took =
      let front = stands.front in
      let e : encodes w ≡ w = encodes-IsAscii w ascii in
      let all : chars text ≡ front ++ (w ++ u.rest) = stands.split ∙ ap (λ l. front ++ l) took.split in
      let bytes : text ≡ encodes front ++ (encodes w ++ encodes u.rest) =
      sym (encodes-chars text utf8) ∙ (ap encodes all ∙ (encodes-append front (w ++ u.rest) ∙ ap (λ l. encodes front ++ l) (encodes-append w u.rest))) in
      middle (encodes front) (encodes w) (encodes u.rest) text s.position u.position bytes (stands.size ∙ sizes front) (took.place ∙ ap (λ n. s.position + n) (sizes w)) ∙ e

  pub is_number : Numeral s u → IsNumber text s.position u.position
  is_number x =
      let e = slice_taken x.word (IsAscii-from_digits x.word x.kind.1) x.took in
      record { digits = rw e x.kind; unsigned = rw e (unsigned x.word x.kind) }

  pub is_integer : Stretch IsSigned s u → IsInteger text s.position u.position
  is_integer x = let e = slice_taken x.word x.kind.ascii x.took in rw e x.kind.digits
