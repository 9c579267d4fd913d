-- Numbers.
use Rattle.std.proofs.Common.{◌≡◌, refl, ◌∙◌, ap, ℕ, ◌+◌, ◌<◌, ◌≤◌, ◌^◌, List, [], ◌∷◌, ◌++◌, Bool, true, false, not, nat_eq, nat_lt, if◌then◌else◌, codes, arith, None, lt-ltb, le-leb, ne_eqb}
use Rattle.std.specs.Char.{digit_value}
use Rattle.std.specs.List.{slice_range}
use Rattle.std.specs.Str.{IsUtf8}
use Rattle.std.specs.Str.Parse.{AllDigits, IsNumeral, digits_value}
use Rattle.std.proofs.lemmas.Fmt.{IsAscii-from_digits}
use Rattle.std.proofs.lemmas.Str.{encodes-IsAscii}
use Rattle.std.proofs.lemmas.Str.Parse.{digit_from_value}
use Rattle.std.specs.Option.{option_or}
use Rattle.base_language.specs.Language.Text.{Text}
use Rattle.base_language.specs.Language.Expression.{Expression, Range, Rep, whitespace, comment}
use Rattle.base_language.specs.Language.State.{AtomicMode, None', Tree, Trees, Success, Failure, joined}
use Rattle.base_language.specs.Language.Builtins.{is_between}
use Rattle.base_language.specs.Language.Meaning.{Run, Turns}
use Rattle.base_language.specs.declared.grammar.Rule.TheVariants as is
use Rattle.front_grammar.specs.MetaGrammar.{body_of}
use Rattle.front_grammar.specs.Shape.{Lone}
use Rattle.front_reader.specs.Reading.{number}
use Rattle.front_reader.specs.Flaws.{own_flaw, flaw_if, past_u32, zero_times, number_flaw, closes, PastU32, ZeroTimes}
use Rattle.pest_meta.proofs.Deriving.{at, Gives, Calls, Skips, call, seq, rep, rep_none, turn, turn_none, rep_once, atomic, stays}
use Rattle.pest_meta.proofs.Parts.{IsLeftAt, IsFlawless, flawless_none, flawless_tree}
use Rattle.pest_meta.proofs.Characters.{past, range_takes, range_misses, solid_when, differs, sign_misses}
use Rattle.pest_meta.proofs.WrittenBetween.{slice_is}

abbrev pub is_digit : ℕ → Bool
is_digit c = is_between 48 57 c

pub digit_is : (c : ℕ) → digit_value c < 10 → is_digit c ≡ true
digit_is c h = let i = digit_from_value c h in rw (le-leb 48 c i.0, le-leb c 57 i.1) refl

abbrev a_digit : Expression
a_digit = Range (codes "0") (codes "9")

digits_turns : (ds : Text) (c : ℕ) (L : Text) → AllDigits 10 ds → is_digit c ≡ false → (p : ℕ) → (q : ℕ) × Gives (Turns AtomicMode a_digit) (at p (ds ++ (c ∷ L))) (Success (at q (c ∷ L)) None')
digits_turns [] c L h k p = (p, turn_none atomic (range_misses 48 57 c L p k))
digits_turns (d ∷ ds) c L h k p = let (q, e) = digits_turns ds c L h.1 k (past p d) in (q, turn atomic (range_takes 48 57 d (ds ++ (c ∷ L)) p (digit_is d h.0)) e)

pub digits_rep : (ds : Text) (c : ℕ) (L : Text) → AllDigits 10 ds → is_digit c ≡ false → (p : ℕ) → (q : ℕ) × Gives (Run AtomicMode (Rep a_digit)) (at p (ds ++ (c ∷ L))) (Success (at q (c ∷ L)) None')
digits_rep [] c L h k p = (p, rep_none (range_misses 48 57 c L p k))
digits_rep (d ∷ ds) c L h k p = let (q, e) = digits_turns ds c L h.1 k (past p d) in (q, rep (range_takes 48 57 d (ds ++ (c ∷ L)) p (digit_is d h.0)) e)

pub number_body : (ds : Text) (c : ℕ) (L : Text) → IsNumeral 10 ds → is_digit c ≡ false → (p : ℕ) → (q : ℕ) × Gives (Run AtomicMode (body_of is.number)) (at p (ds ++ (c ∷ L))) (Success (at q (c ∷ L)) None')
number_body [] c L h k p = absurd (omega (arith, h.0))
number_body (d ∷ ds) c L h k p =
    let (q, e) = digits_rep ds c L h.1.1 k (past p d) in
    (q, rep_once (seq (range_takes 48 57 d (ds ++ (c ∷ L)) p (digit_is d h.1.0)) atomic e))

-- a number's call, and how it begins
pub record NumberAt (p : ℕ) (ds : Text) (c : ℕ) (L : Text) : Type 0 where
  pub place : ℕ
  pub does : Calls is.number (at p (ds ++ (c ∷ L))) (Success (at place (c ∷ L)) (Tree (codes "number") p place None' None'))
  pub skip : Skips (at p (ds ++ (c ∷ L))) p (ds ++ (c ∷ L))
  pub blank : (k : ℕ) → Skips (at k (32 ∷ (ds ++ (c ∷ L)))) (k + 1) (ds ++ (c ∷ L))
  pub no_brace : (k : ℕ) → Calls is.closing_brace (at k (ds ++ (c ∷ L))) Failure
  pub no_comma : (k : ℕ) → Calls is.comma (at k (ds ++ (c ∷ L))) Failure

pub number_at : (ds : Text) (c : ℕ) (L : Text) → IsNumeral 10 ds → is_digit c ≡ false → (p : ℕ) → NumberAt p ds c L
unfolding whitespace comment
number_at [] c L h k p = absurd (omega (arith, h.0))
number_at (d ∷ ds) c L h k p =
    let (q, e) = number_body (d ∷ ds) c L h k p in
    let i = digit_is d h.1.0 in
    let R : Text = ds ++ (c ∷ L) in
    let solid = solid_when is_digit d refl refl i in
    record {
      place = q;
      does = call is.number refl e;
      skip = stays d R p solid;
      blank = λ j. Rattle.pest_meta.proofs.Deriving.one_blank d R j solid;
      no_brace = λ j. call is.closing_brace refl (sign_misses 125 [] d R j (differs is_digit 125 d refl i));
      no_comma = λ j. call is.comma refl (sign_misses 44 [] d R j (differs is_digit 44 d refl i));
    }

module _ (text : List ℕ) (utf8 : IsUtf8 text) where
  -- digits between two places
  pub digits_are : (p q : ℕ) (ds K : Text) → AllDigits 10 ds → IsLeftAt text p (ds ++ K) → IsLeftAt text q K → slice_range text p q ≡ ds
  digits_are p q ds K h from to = slice_is text utf8 p q ds K from to ∙ encodes-IsAscii ds (IsAscii-from_digits ds h)

  pub number_is : (p q n : ℕ) (ds K : Text) → IsNumeral 10 ds → digits_value 10 ds ≡ n → IsLeftAt text p (ds ++ K) → IsLeftAt text q K → number text p q ≡ n
  number_is p q n ds K h e from to = ap (digits_value 10) (digits_are p q ds K h.1 from to) ∙ e

  small : (i j n : ℕ) → number text i j ≡ n → n < 2 ^ 32 → past_u32 text i j ≡ None
  small i j n e h = ap (λ x. flaw_if text (not (nat_lt x (2 ^ 32))) PastU32 i j) e ∙ ap (λ b. flaw_if text (not b) PastU32 i j) (lt-ltb n (2 ^ 32) h)

  not_zero : (i j n : ℕ) → number text i j ≡ n → 1 ≤ n → zero_times text i j ≡ None
  not_zero i j n e h = ap (λ x. flaw_if text (nat_eq x 0) ZeroTimes i j) e ∙ ap (λ b. flaw_if text b ZeroTimes i j) (ne_eqb n 0 (λ k. omega (arith, h, k)))

  fine_count : (i j n : ℕ) → number text i j ≡ n → n < 2 ^ 32 → 1 ≤ n → (vs : Trees) → number_flaw text i j vs ≡ None
  fine_count i j n e h k vs = go (closes vs)
    where
      go : (b : Bool) → (if b then option_or (past_u32 text i j) (zero_times text i j) else past_u32 text i j) ≡ None
      go true = rw (small i j n e h) (not_zero i j n e k)
      go false = small i j n e h

  -- a number tree without a flaw: as a count, and before a comma
  pub count_flawless : (i j n : ℕ) (us : Trees) → number text i j ≡ n → n < 2 ^ 32 → 1 ≤ n → IsFlawless text us → IsFlawless text (Lone (codes "number") i j us)
  unfolding own_flaw
  count_flawless i j n us e h k c = flawless_tree text (λ vs. fine_count i j n e h k (joined us vs)) (flawless_none text) c

  pub number_flawless : (i j n a b : ℕ) (us : Trees) → number text i j ≡ n → n < 2 ^ 32 → IsFlawless text us → IsFlawless text (Lone (codes "number") i j (Lone (codes "comma") a b us))
  unfolding own_flaw
  number_flawless i j n a b us e h c = flawless_tree text (λ vs. small i j n e h) (flawless_none text) (flawless_tree text (λ vs. refl) (flawless_none text) c)
