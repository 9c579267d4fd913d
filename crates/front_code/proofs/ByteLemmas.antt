-- The constant programs in bytes.
use Rattle.std.proofs.Common.{◌≡◌, refl, sym, ◌∙◌, ap, ℕ, zero, suc, ◌+◌, ◌*◌, ◌<◌, ◌≤◌, List, [], ◌∷◌, Bool, true, false, ◌&&◌, arith, drop, get_or, length, length-drop, map, ◌==◌, eqb-true}
use Rattle.std.proofs.lemmas.Bool.{and_parts}
use Rattle.std.proofs.lemmas.List.{get_or-drop}
use Rattle.matcher_code.specs.Bytecodes.{sets_in}
use Rattle.matcher_code.specs.Lists.{CodeLists, is_covered}
use Rattle.matcher_code.specs.Reading.{no_characters}
use Rattle.matcher_code.specs.Sets.{IsSetOf, flag_of}
use Rattle.matcher_code.specs.Words.{word}
use Rattle.matcher_code.proofs.SetLemmas.{means_ranges}
use Rattle.front_code.specs.Codes.{IsExactCode, IsFastCode, exact_ops, exact_sets, fast_ops, fast_sets, texts}
use Rattle.front_code.specs.declared.constants.TheConstants.{EXACT_ORDERS, EXACT_BYTE_SETS, FAST_ORDERS, FAST_BYTE_SETS, FAST_TABLES}

-- whether a given number of flags from a byte on are those of ranges; whether byte_sets have the flags of
-- lists of ranges
abbrev has_flags : ℕ → List (ℕ × ℕ) → ℕ → List ℕ → Bool
has_flags zero ranges b byte_set = true
has_flags (suc n) ranges b [] = false
has_flags (suc n) ranges b (x ∷ byte_set) = (x == flag_of ranges b) && has_flags n ranges (suc b) byte_set

abbrev pub has_byte_sets : List (List (ℕ × ℕ)) → List ℕ → Bool
has_byte_sets [] byte_sets = true
has_byte_sets (r ∷ rs) byte_sets = has_flags 256 r 0 byte_sets && has_byte_sets rs (drop 256 byte_sets)

flags_from : (n : ℕ) (ranges : List (ℕ × ℕ)) (b : ℕ) (byte_set : List ℕ) → has_flags n ranges b byte_set ≡ true → (i : ℕ) → i < n
    → get_or byte_set i 0 ≡ flag_of ranges (b + i)
flags_from zero ranges b byte_set h i l = absurd (omega (arith, l))
flags_from (suc n) ranges b [] h i l = cc
flags_from (suc n) ranges b (x ∷ byte_set) h zero l =
    let z : b ≡ b + 0 = omega arith in
    eqb-true x (flag_of ranges b) (and_parts (x == flag_of ranges b) (has_flags n ranges (suc b) byte_set) h).0 ∙ ap (flag_of ranges) z
flags_from (suc n) ranges b (x ∷ byte_set) h (suc i) l =
    let z : suc b + i ≡ b + suc i = omega arith in
    flags_from n ranges (suc b) byte_set (and_parts (x == flag_of ranges b) (has_flags n ranges (suc b) byte_set) h).1 i (omega (arith, l)) ∙ ap (flag_of ranges) z

pub byte_set_at : (rs : List (List (ℕ × ℕ))) (byte_sets : List ℕ) → has_byte_sets rs byte_sets ≡ true → (i : ℕ) → i < length rs → (b : ℕ) → b < 256
    → get_or byte_sets (i * 256 + b) 0 ≡ flag_of (get_or rs i []) b
byte_set_at [] byte_sets h i l b k = absurd (omega (arith, l))
byte_set_at (r ∷ rs) byte_sets h zero l b k =
    let z : zero * 256 + b ≡ b = omega arith in
    ap (λ j. get_or byte_sets j 0) z ∙ flags_from 256 r 0 byte_sets (and_parts (has_flags 256 r 0 byte_sets) (has_byte_sets rs (drop 256 byte_sets)) h).0 b k ∙ ap (flag_of r) (let y : 0 + b ≡ b = omega arith in y)
byte_set_at (r ∷ rs) byte_sets h (suc i) l b k =
    let z : suc i * 256 + b ≡ 256 + (i * 256 + b) = omega arith in
    ap (λ j. get_or byte_sets j 0) z ∙ (sym (get_or-drop 256 byte_sets (i * 256 + b) 0)
    ∙ byte_set_at rs (drop 256 byte_sets) (and_parts (has_flags 256 r 0 byte_sets) (has_byte_sets rs (drop 256 byte_sets)) h).1 i (omega (arith, l)) b k)

long_byte_set : (n : ℕ) (ranges : List (ℕ × ℕ)) (b : ℕ) (byte_set : List ℕ) → has_flags n ranges b byte_set ≡ true → n ≤ length byte_set
long_byte_set zero ranges b byte_set h = omega arith
long_byte_set (suc n) ranges b [] h = absurd (cc)
long_byte_set (suc n) ranges b (x ∷ byte_set) h = omega (arith, long_byte_set n ranges (suc b) byte_set (and_parts (x == flag_of ranges b) (has_flags n ranges (suc b) byte_set) h).1)

pub long_byte_sets : (rs : List (List (ℕ × ℕ))) (byte_sets : List ℕ) → has_byte_sets rs byte_sets ≡ true → length rs * 256 ≤ length byte_sets
long_byte_sets [] byte_sets h = omega arith
long_byte_sets (r ∷ rs) byte_sets h =
    let both = and_parts (has_flags 256 r 0 byte_sets) (has_byte_sets rs (drop 256 byte_sets)) h in
    omega (arith, long_byte_set 256 r 0 byte_sets both.0, long_byte_sets rs (drop 256 byte_sets) both.1, length-drop 256 byte_sets)

covered_at : (rs : List (List (ℕ × ℕ))) (i : ℕ) → i < length rs → get_or (map is_covered rs) i no_characters ≡ is_covered (get_or rs i [])
covered_at [] i l = absurd (omega (arith, l))
covered_at (r ∷ rs) zero l = refl
covered_at (r ∷ rs) (suc i) l = covered_at rs i (omega (arith, l))

module _ (code : CodeLists) (ranges : List (List (ℕ × ℕ))) (same : code.sets ≡ map is_covered ranges) (right : has_byte_sets ranges code.byte_sets ≡ true) where
  right_sets : (i : ℕ) → i < length ranges → IsSetOf code i (get_or ranges i [])
  right_sets i l =
      means_ranges code i (get_or ranges i []) (ap (λ fs. get_or fs i no_characters) same ∙ covered_at ranges i l)
      (λ b k. byte_set_at ranges code.byte_sets right i l b k)

-- the exact code in bytes
abbrev pub exact_lists : CodeLists
exact_lists = record {
  ops = exact_ops;
  byte_sets = EXACT_BYTE_SETS;
  sets = sets_in EXACT_ORDERS exact_sets;
  tables = [];
  texts = texts;
  lists = [];
}

same_exact_sets : exact_lists.sets ≡ map is_covered exact_sets
same_exact_sets = refl

pub right_exact_byte_sets : has_byte_sets exact_sets EXACT_BYTE_SETS ≡ true
right_exact_byte_sets = refl

pub exact_bytes : IsExactCode exact_lists
exact_bytes = record { ops = refl; texts = refl; sets = right_sets exact_lists exact_sets same_exact_sets right_exact_byte_sets }

-- the fast code in bytes
abbrev pub fast_tables : List ℕ
fast_tables = map word FAST_TABLES

abbrev pub fast_lists : CodeLists
fast_lists = record {
  ops = fast_ops;
  byte_sets = FAST_BYTE_SETS;
  sets = sets_in FAST_ORDERS fast_sets;
  tables = fast_tables;
  texts = texts;
  lists = [];
}

same_fast_sets : fast_lists.sets ≡ map is_covered fast_sets
same_fast_sets = refl

pub right_fast_byte_sets : has_byte_sets fast_sets FAST_BYTE_SETS ≡ true
right_fast_byte_sets = refl

pub fast_bytes : IsFastCode fast_lists
fast_bytes = record { ops = refl; texts = refl; sets = right_sets fast_lists fast_sets same_fast_sets right_fast_byte_sets }
