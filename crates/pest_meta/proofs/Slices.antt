-- Slices.
use Rattle.std.proofs.Common.{◌≡◌, refl, ◌∙◌, ap, ap₂, ℕ, suc, ℤ, pos, negsuc, ◌+◌, ◌<◌, ◌^◌, List, [], ◌∷◌, ◌++◌, true, false, not, codes, get_or, arith, None, Some, Option, ltb-true, le-leb, ne_eqb}
use Rattle.std.specs.Char.{digit_value}
use Rattle.std.specs.Fmt.{decimal, signed_decimal}
use Rattle.std.specs.List.{slice_range}
use Rattle.std.specs.Str.{chars, IsUtf8}
use Rattle.std.specs.Str.Parse.{AllDigits, IsNumeral, digits_value, signed_digits_value}
use Rattle.std.proofs.lemmas.Fmt.{decimal_is_IsNumeral, first_decimal, IsAscii-signed}
use Rattle.std.proofs.lemmas.Str.{encodes-IsAscii}
use Rattle.std.proofs.lemmas.Str.Parse.{digit_from_value}
use Rattle.base_language.specs.Language.Text.{Text}
use Rattle.base_language.specs.Language.Expression as bare
use Rattle.base_language.specs.Language.Expression.{Expression, PeekSlice, whitespace, comment}
use Rattle.base_language.specs.Language.State.{State, NonAtomicMode, AtomicMode, None', Tree, Trees, Success, Failure}
use Rattle.base_language.specs.Language.Meaning.{Run}
use Rattle.base_language.specs.declared.grammar.Rule.TheVariants as is
use Rattle.front_grammar.specs.MetaGrammar.{rule}
use Rattle.front_grammar.specs.Shape.{Lone}
use Rattle.front_reader.specs.Reading.{integer, leaf, slice_from, slice_between}
use Rattle.front_reader.specs.Flaws.{own_flaw, flaw_if, past_i32, fits_i32, PastI32}
use Rattle.pest_meta.specs.ReadsBack.{FitsI32}
use Rattle.pest_meta.proofs.PrintedBefore.{slice_before}
use Rattle.pest_meta.proofs.Deriving.{at, Gives, Calls, Skips, str, range, call, seq, seq_first, left, right, opt, opt_none, rep_none, rep_once, atomic, stays}
use Rattle.pest_meta.proofs.Parts.{node_start, IsLeftAt, IsFlawless, flawless_none, flawless_tree, still_left, IsNodeText}
use Rattle.pest_meta.proofs.Characters.{past, range_takes, range_misses, solid_when, sign_misses}
use Rattle.pest_meta.proofs.WrittenBetween.{slice_is}
use Rattle.pest_meta.proofs.Numbers.{is_digit, digit_is, number_body}
use Rattle.pest_meta.proofs.Nodes.{node_with, as_node}

-- a number with its sign, before a character that is no digit
record IntegerAt (p : ℕ) (w : Text) (c : ℕ) (L : Text) : Type 0 where
  pub place : ℕ
  pub does : Calls is.integer (at p (w ++ (c ∷ L))) (Success (at place (c ∷ L)) (Tree (codes "integer") p place None' None'))
  pub skip : Skips (at p (w ++ (c ∷ L))) p (w ++ (c ∷ L))

unsigned_at : (ds : Text) (c : ℕ) (L : Text) → IsNumeral 10 ds → is_digit c ≡ false → (p : ℕ) → IntegerAt p ds c L
unfolding whitespace comment
unsigned_at [] c L h k p = absurd (omega (arith, h.0))
unsigned_at (d ∷ ds) c L h k p =
    let (q, e) = number_body (d ∷ ds) c L h k p in
    record { place = q; does = call is.integer refl (left (call is.number refl e)); skip = stays d (ds ++ (c ∷ L)) p (solid_when is_digit d refl refl (digit_is d h.1.0)) }

more_digits : (ds : Text) (c : ℕ) (L : Text) → AllDigits 10 ds → is_digit c ≡ false → (p : ℕ) → (q : ℕ) × Gives (Run AtomicMode (bare.Opt (rule is.number))) (at p (ds ++ (c ∷ L))) (Success (at q (c ∷ L)) None')
unfolding whitespace comment
more_digits [] c L h k p = (p, opt_none (call is.number refl (rep_once (seq_first (range_misses 48 57 c L p k)))))
more_digits (d ∷ ds) c L h k p = let (q, e) = number_body (d ∷ ds) c L (omega arith, h) k p in (q, opt (call is.number refl e))

negative_at : (ds : Text) (c : ℕ) (L : Text) → IsNumeral 10 ds → 48 < get_or ds 0 0 → is_digit c ≡ false → (p : ℕ) → IntegerAt p (45 ∷ ds) c L
unfolding whitespace comment
negative_at [] c L h i k p = absurd (omega (arith, h.0))
negative_at (d ∷ ds) c L h i k p =
    let R : Text = ds ++ (c ∷ L) in
    let low : 48 < d = i in
    let high = digit_from_value d h.1.0 in
    let (q, e) = more_digits ds c L h.1.1 k (past (p + 1) d) in
    let no_zero : Gives (Run AtomicMode (bare.Str (codes "0"))) (at (p + 1) (d ∷ R)) Failure = sign_misses 48 [] d R (p + 1) (ne_eqb 48 d (λ j. omega (arith, low, j))) in
    let first : Gives (Run AtomicMode (bare.Range (codes "1") (codes "9"))) (at (p + 1) (d ∷ R)) (Success (at (past (p + 1) d) R) None') =
    range_takes 49 57 d R (p + 1) (rw (le-leb 49 d (omega (arith, low)), le-leb d 57 (omega (arith, high.1))) refl) in
    record {
      place = q;
      does = call is.integer refl (right (call is.number refl (rep_once (seq_first range))) (seq (seq (seq str atomic (rep_none no_zero)) atomic first) atomic e));
      skip = stays 45 (d ∷ R) p refl;
    }

integer_at : (i : ℤ) → fits_i32 i ≡ true → (c : ℕ) (L : Text) → is_digit c ≡ false → (p : ℕ) → IntegerAt p (signed_decimal i) c L
integer_at (pos n) h c L k p = let j = ltb-true n (2 ^ 31) h in unsigned_at (decimal n) c L (decimal_is_IsNumeral n (omega (arith, j))).0 k p
integer_at (negsuc n) h c L k p =
    let j = ltb-true n (2 ^ 31) h in
    negative_at (decimal (suc n)) c L (decimal_is_IsNumeral (suc n) (omega (arith, j))).0 (first_decimal (suc n) (omega arith) (omega (arith, j))) k p

-- what such a number says
unsigned_value : (ds : Text) → IsNumeral 10 ds → signed_digits_value 10 ds ≡ pos (digits_value 10 ds)
unsigned_value [] h = absurd (omega (arith, h.0))
unsigned_value (c ∷ w) h =
    let i = digit_from_value c h.1.0 in
    let a = ne_eqb c 45 (λ k. omega (arith, i.0, k)) in
    let b = ne_eqb c 43 (λ k. omega (arith, i.0, k)) in
    rw (a, b) refl

signed_value : (i : ℤ) → fits_i32 i ≡ true → signed_digits_value 10 (signed_decimal i) ≡ i
signed_value (pos n) h =
    let j = ltb-true n (2 ^ 31) h in
    let d = decimal_is_IsNumeral n (omega (arith, j)) in
    unsigned_value (decimal n) d.0 ∙ ap pos d.1
signed_value (negsuc n) h =
    let j = ltb-true n (2 ^ 31) h in
    let d = decimal_is_IsNumeral (suc n) (omega (arith, j)) in
    let e = d.1 in
    rw e refl

module _ (text : List ℕ) (utf8 : IsUtf8 text) where
  integer_is : (p q : ℕ) (i : ℤ) (K : Text) → fits_i32 i ≡ true → IsLeftAt text p (signed_decimal i ++ K) → IsLeftAt text q K → integer text p q ≡ i
  integer_is p q i K h from to =
      ap (signed_digits_value 10) (slice_is text utf8 p q (signed_decimal i) K from to ∙ encodes-IsAscii (signed_decimal i) (ascii i h)) ∙ signed_value i h
    where
      ascii : (i : ℤ) → fits_i32 i ≡ true → Rattle.std.specs.Str.IsAscii (signed_decimal i)
      ascii (pos n) h = let j = ltb-true n (2 ^ 31) h in IsAscii-signed (pos n) (omega (arith, j))
      ascii (negsuc n) h = let j = ltb-true n (2 ^ 31) h in IsAscii-signed (negsuc n) (omega (arith, j))

  integer_flawless : (j k : ℕ) (i : ℤ) (us : Trees) → integer text j k ≡ i → fits_i32 i ≡ true → IsFlawless text us → IsFlawless text (Lone (codes "integer") j k us)
  unfolding own_flaw
  integer_flawless j k i us e h c =
      let f : past_i32 text j k ≡ None = ap (λ x. flaw_if text (not (fits_i32 x)) PastI32 j k) e ∙ ap (λ b. flaw_if text (not b) PastI32 j k) h in
      flawless_tree text (λ vs. f) (flawless_none text) c

  bracket : (t : Text) (p : ℕ) → Calls is.opening_brack (at p (91 ∷ t)) (Success (at (p + 1) t) (Tree (codes "opening_brack") p (p + 1) None' None'))
  unfolding whitespace comment
  bracket t p = call is.opening_brack refl str

  unbracket : (t : Text) (p : ℕ) → Calls is.closing_brack (at p (93 ∷ t)) (Success (at (p + 1) t) (Tree (codes "closing_brack") p (p + 1) None' None'))
  unfolding whitespace comment
  unbracket t p = call is.closing_brack refl str

  dots : (t : Text) (p : ℕ) → Calls is.range_operator (at p (46 ∷ 46 ∷ t)) (Success (at (p + 2) t) (Tree (codes "range_operator") p (p + 2) None' None'))
  unfolding whitespace comment
  dots t p = call is.range_operator refl str

  -- the terminal, behind the other words that may begin with a P
  slice_node : (p : ℕ) (t : Text) {s : State} {us : Trees} → Calls is.peek_slice (at p (80 ∷ 69 ∷ t)) (Success s us) → Calls is.node (at p (80 ∷ 69 ∷ t)) (Success s us)
  unfolding whitespace comment
  slice_node p t d =
      as_node text 80 (69 ∷ t) p refl (call is.terminal refl (left (left (left (left (right
      (right (call is._push_literal refl (seq_first (seq_first (seq_first str)))) (call is._push refl (seq_first (seq_first (seq_first str))))) d))))))

  open_slice : (i : ℤ) → fits_i32 i ≡ true → IsNodeText text (λ K. slice_before i None K) (PeekSlice i None)
  unfolding whitespace comment own_flaw
  open_slice i h p b K₀ K here f loop =
      let v : Text = 93 ∷ K₀ in
      let u : Text = signed_decimal i ++ (46 ∷ 46 ∷ v) in
      let n = integer_at i h 46 (46 ∷ v) refl (p + 4 + 1) in
      let q = n.place in
      let start : IsLeftAt text (p + 4 + 1) u = still_left text (bracket u (p + 4)) (still_left text {k = Run NonAtomicMode (bare.Str (codes "PEEK"))} str here) in
      let value = integer_is (p + 4 + 1) q i (46 ∷ 46 ∷ v) h start (still_left text n.does start) in
      let no_number : Calls is.integer (at (q + 2) v) Failure = call is.integer refl (right (call is.number refl (rep_once (seq_first range))) (seq_first (seq_first (seq_first str)))) in
      let inner : Trees = Lone (codes "opening_brack") (p + 4) (p + 4 + 1) (Lone (codes "integer") (p + 4 + 1) q (Lone (codes "range_operator") q (q + 2) (Lone (codes "closing_brack") (q + 2) (q + 2 + 1) None'))) in
      let does : Calls is.peek_slice (at p (codes "PEEK[" ++ u)) (Success (at (q + 2 + 1) K₀) (Tree (codes "peek_slice") p (q + 2 + 1) inner None')) =
      call is.peek_slice refl (seq (seq (seq (seq (seq str (stays 91 u (p + 4) refl) (bracket u (p + 4))) n.skip (opt n.does)) (stays 46 (46 ∷ v) q refl) (dots v q)) (stays 93 K₀ (q + 2) refl) (opt_none no_number)) (stays 93 K₀ (q + 2) refl) (unbracket K₀ (q + 2))) in
      node_with text p (q + 2 + 1) (codes "PEEK[" ++ u) K₀ K (codes "peek_slice") inner _ (PeekSlice i None) b (node_start 80 _ refl refl refl refl) (slice_node p _ does) (leaf slice_from)
      (record { same = ap (λ x. PeekSlice x None) value })
      (flawless_tree text (λ vs. refl) (flawless_tree text (λ vs. refl) (flawless_none text) (integer_flawless (p + 4 + 1) q i _ value h (flawless_tree text (λ vs. refl) (flawless_none text) (flawless_tree text (λ vs. refl) (flawless_none text) (flawless_none text))))) (flawless_none text)) here loop

  closed_slice : (i j : ℤ) → fits_i32 i ≡ true → fits_i32 j ≡ true → IsNodeText text (λ K. slice_before i (Some j) K) (PeekSlice i (Some j))
  unfolding whitespace comment own_flaw
  closed_slice i j h k p b K₀ K here f loop =
      let v : Text = signed_decimal j ++ (93 ∷ K₀) in
      let u : Text = signed_decimal i ++ (46 ∷ 46 ∷ v) in
      let n = integer_at i h 46 (46 ∷ v) refl (p + 4 + 1) in
      let q = n.place in
      let m = integer_at j k 93 K₀ refl (q + 2) in
      let r = m.place in
      let start : IsLeftAt text (p + 4 + 1) u = still_left text (bracket u (p + 4)) (still_left text {k = Run NonAtomicMode (bare.Str (codes "PEEK"))} str here) in
      let middle = still_left text n.does start in
      let first = integer_is (p + 4 + 1) q i (46 ∷ 46 ∷ v) h start middle in
      let behind = still_left text (dots v q) middle in
      let second = integer_is (q + 2) r j (93 ∷ K₀) k behind (still_left text m.does behind) in
      let inner : Trees = Lone (codes "opening_brack") (p + 4) (p + 4 + 1) (Lone (codes "integer") (p + 4 + 1) q (Lone (codes "range_operator") q (q + 2) (Lone (codes "integer") (q + 2) r (Lone (codes "closing_brack") r (r + 1) None')))) in
      let does : Calls is.peek_slice (at p (codes "PEEK[" ++ u)) (Success (at (r + 1) K₀) (Tree (codes "peek_slice") p (r + 1) inner None')) =
      call is.peek_slice refl (seq (seq (seq (seq (seq str (stays 91 u (p + 4) refl) (bracket u (p + 4))) n.skip (opt n.does)) (stays 46 (46 ∷ v) q refl) (dots v q)) m.skip (opt m.does)) (stays 93 K₀ r refl) (unbracket K₀ r)) in
      node_with text p (r + 1) (codes "PEEK[" ++ u) K₀ K (codes "peek_slice") inner _ (PeekSlice i (Some j)) b (node_start 80 _ refl refl refl refl) (slice_node p _ does) (leaf slice_between)
      (record { same = ap₂ (λ x y. PeekSlice x (Some y)) first second })
      (flawless_tree text (λ vs. refl) (flawless_tree text (λ vs. refl) (flawless_none text) (integer_flawless (p + 4 + 1) q i _ first h (flawless_tree text (λ vs. refl) (flawless_none text)
      (integer_flawless (q + 2) r j _ second k (flawless_tree text (λ vs. refl) (flawless_none text) (flawless_none text)))))) (flawless_none text)) here loop

  pub slice_text : (i : ℤ) (j : Option ℤ) → fits_i32 i ≡ true → FitsI32 j → IsNodeText text (λ K. slice_before i j K) (PeekSlice i j)
  slice_text i None h k = open_slice i h
  slice_text i (Some j) h k = closed_slice i j h k
