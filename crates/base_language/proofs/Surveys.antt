-- Lines and columns behind more of a text, and the line that two places share.
use Rattle.std.proofs.Common.{⊎_elim, ◌⊎◌, inl, inr, Result, Ok, Err, string_bytes, ◌≡◌, ◌≢◌, ℕ, suc, ◌+◌, ◌-◌, ◌<◌, ◌≤◌, not, Bool, true, false, cond, List, [], ◌∷◌, ◌++◌, length, get_or, take, drop, reverse, refl, sym, ap, ◌∙◌, arith, eqb, append_assoc, slice_range}
use Rattle.std.specs.Arc.{arc_value}
use Rattle.std.specs.declared.sync.Arc.{Arc}
use Rattle.std.specs.declared.string.String.{String}
use Rattle.std.specs.declared.alloc.Global.{Global}
use Rattle.std.specs.declared.alloc.AllocError.{AllocError}
use Rattle.std.specs.Result.{IfOk, MatchResult}
use Rattle.std.specs.List.{count_by, filter, suffix_len, prefix_len, position_or_len}
use Rattle.std.specs.Str.{chars, encode_utf8_all, IsCharBoundary, IsUtf8}
use Rattle.std.proofs.lemmas.Bool.Decides.{nat_tests, eqb_tells, leb_tells}
use Rattle.std.proofs.lemmas.List.{reverse-append, length-reverse, get_or-reverse, drop-append-le, take-append-drop, drop-drop}
use Rattle.std.proofs.lemmas.List.Elements.{All-cons, All-push}
use Rattle.std.proofs.lemmas.List.Folds.{prefix_len-append}
use Rattle.std.proofs.lemmas.List.Sums.{sum_by-append, suffix_len-le-length, prefix_len_stops}
use Rattle.std.proofs.lemmas.Str.{chars-append, chars-nil, IsUtf8-drop, IsCharBoundary-after_ascii, IsCharBoundary-start}
use Rattle.std.proofs.Math.Seq.{drop-append-add, take-add}
use Rattle.std.proofs.Math.ListN.{length-drop, length-append}
use Rattle.base_language.specs.Pieces.LineColumn.{is_line_feed, last_line, first_line, line_number, line_around}
use Rattle.base_language.specs.Pieces.Landmarks.{AreLandmarks, IsLandmark, column_behind, start}
use Rattle.base_language.specs.Pieces.PrintedError.{is_printed, printed_line}
use Rattle.base_language.specs.declared.runtime.surveys.Landmark.{Landmark}

pub order : (a b : ℕ) → (a ≤ b) ⊎ (b < a)
order a b = ⊎_elim (λ h. inl h.1) (λ h. inr h.1) (leb_tells a b)

-- no line feed
abbrev other : ℕ → Bool
other b = not (is_line_feed b)

suffix_len_append : (p : ℕ → Bool) (a b : List ℕ) → suffix_len p (a ++ b) ≡ cond (eqb (suffix_len p b) (length b)) (length b + suffix_len p a) (suffix_len p b)
suffix_len_append p a b =
    ap (prefix_len p) (reverse-append a b) ∙ prefix_len-append p (reverse b) (reverse a)
    ∙ ap (λ n. cond (eqb (suffix_len p b) n) (n + suffix_len p a) (suffix_len p b)) (length-reverse b)

pub length_last_line : (text : List ℕ) → length (last_line text) ≡ suffix_len other text
length_last_line text = length-drop (length text - suffix_len other text) text ∙ omega (arith, suffix_len-le-length other text)

-- all of the second part is in the last line
pub last_line_goes_on : (a b : List ℕ) → suffix_len other b ≡ length b → last_line (a ++ b) ≡ last_line a ++ b
last_line_goes_on a b all =
    let s : suffix_len other (a ++ b) ≡ length b + suffix_len other a = suffix_len_append other a b ∙ grind (arith, nat_tests) in
    let n : length (a ++ b) - suffix_len other (a ++ b) ≡ length a - suffix_len other a = omega (arith, length-append a b, s) in
    ap (λ n. drop n (a ++ b)) n ∙ drop-append-le (length a - suffix_len other a) a b (omega arith)

-- a line ends in the second part
pub last_line_begins : (a b : List ℕ) → suffix_len other b ≢ length b → last_line (a ++ b) ≡ last_line b
last_line_begins a b part =
    let s : suffix_len other (a ++ b) ≡ suffix_len other b = suffix_len_append other a b ∙ grind (arith, nat_tests) in
    let n : length (a ++ b) - suffix_len other (a ++ b) ≡ length a + (length b - suffix_len other b) = omega (arith, length-append a b, s, suffix_len-le-length other b) in
    ap (λ n. drop n (a ++ b)) n ∙ drop-append-add a b (length b - suffix_len other b)

last_line_all : (b : List ℕ) → suffix_len other b ≡ length b → last_line b ≡ b
last_line_all b all = let n : length b - suffix_len other b ≡ 0 = omega arith in ap (λ n. drop n b) n

pub last_line_is_text : (a : List ℕ) → IsUtf8 a → IsUtf8 (last_line a)
last_line_is_text a text = IsUtf8-drop a (length a - suffix_len other a) text (⊎_elim whole part (order (length a) (suffix_len other a)))
  where
    whole : length a ≤ suffix_len other a → IsCharBoundary a (length a - suffix_len other a)
    whole h = let n : length a - suffix_len other a ≡ 0 = omega arith in rw n (IsCharBoundary-start a text)

    part : suffix_len other a < length a → IsCharBoundary a (length a - suffix_len other a)
    part h =
        let stops = prefix_len_stops other (reverse a) 0 (rw (length-reverse a) h) in
        let at = get_or-reverse a (suffix_len other a) 0 h in
        let feed : get_or a (length a - 1 - suffix_len other a) 0 ≡ 10 = grind (arith, nat_tests, stops, at) in
        let n : length a - suffix_len other a ≡ length a - 1 - suffix_len other a + 1 = omega arith in
        rw n (IsCharBoundary-after_ascii a (length a - 1 - suffix_len other a) text (omega arith) (omega arith))

-- the column behind more of a text
pub column_moves : (a b : List ℕ) → IsUtf8 a → 1 + length (chars (last_line (a ++ b))) ≡ column_behind (1 + length (chars (last_line a))) b
column_moves a b text = ⊎_elim all part (eqb_tells (length (last_line b)) (length b))
  where
    all : (eqb (length (last_line b)) (length b) ≡ true) × (length (last_line b) ≡ length b) → 1 + length (chars (last_line (a ++ b))) ≡ column_behind (1 + length (chars (last_line a))) b
    all h =
        let s : suffix_len other b ≡ length b = sym (length_last_line b) ∙ h.1 in
        let e = ap (λ t. length (chars t)) (last_line_goes_on a b s) in
        let f = ap length (chars-append (last_line a) b (last_line_is_text a text)) in
        let g = length-append (chars (last_line a)) (chars b) in
        let l = ap (λ t. length (chars t)) (last_line_all b s) in
        let t = h.0 in
        rw t (omega (arith, e, f, g, l))

    part : (eqb (length (last_line b)) (length b) ≡ false) × (length (last_line b) ≢ length b) → 1 + length (chars (last_line (a ++ b))) ≡ column_behind (1 + length (chars (last_line a))) b
    part h =
        let s : suffix_len other b ≢ length b = λ e. h.1 (length_last_line b ∙ e) in
        let e = ap (λ t. length (chars t)) (last_line_begins a b s) in
        let t = h.0 in
        rw t (omega (arith, e))

-- what stands before a place, up to another
pub before_place : (text : List ℕ) (i j : ℕ) → i ≤ j → take j text ≡ take i text ++ slice_range text i j
before_place text i j le =
    let n : j ≡ i + (j - i) = omega arith in
    ap (λ n. take n text) n ∙ take-add i (j - i) text

pub line_moves : (text : List ℕ) (i j : ℕ) → i ≤ j → line_number text j ≡ line_number text i + count_by is_line_feed (slice_range text i j)
line_moves text i j le =
    let e = ap (count_by is_line_feed) (before_place text i j le) ∙ sum_by-append (λ x. cond (is_line_feed x) 1 0) (take i text) (slice_range text i j) in
    omega (arith, e)

count_first : (x : ℕ) (b : List ℕ) → count_by is_line_feed (x ∷ b) ≡ count_by is_line_feed (x ∷ []) + count_by is_line_feed b
count_first x b = sum_by-append (λ y. cond (is_line_feed y) 1 0) (x ∷ []) b

-- no line feed among these
none_before : (b : List ℕ) → count_by is_line_feed b ≡ 0 → suffix_len other b ≡ length b
none_before [] e = refl
none_before (x ∷ b) e = next (is_line_feed x) refl (none_before b)
  where
    next : (t : Bool) → is_line_feed x ≡ t → (count_by is_line_feed b ≡ 0 → suffix_len other b ≡ length b) → suffix_len other (x ∷ b) ≡ suc (length b)
    next true is later = absurd (let one : count_by is_line_feed (x ∷ []) ≡ 1 = rw is refl in omega (arith, e, one, count_first x b))
    next false is later =
        let rest : count_by is_line_feed b ≡ 0 = omega (arith, e, count_first x b) in
        let s = later rest in
        let one : suffix_len other (x ∷ []) ≡ 1 = rw is refl in
        suffix_len_append other (x ∷ []) b ∙ grind (arith, nat_tests, s, one)

first_line_goes_on : (b rest : List ℕ) → count_by is_line_feed b ≡ 0 → first_line (b ++ rest) ≡ b ++ first_line rest
first_line_goes_on [] rest e = refl
first_line_goes_on (x ∷ b) rest e = next (is_line_feed x) refl (first_line_goes_on b rest)
  where
    next : (t : Bool) → is_line_feed x ≡ t → (count_by is_line_feed b ≡ 0 → first_line (b ++ rest) ≡ b ++ first_line rest) → first_line (x ∷ b ++ rest) ≡ x ∷ (b ++ first_line rest)
    next true is later = absurd (let one : count_by is_line_feed (x ∷ []) ≡ 1 = rw is refl in omega (arith, e, one, count_first x b))
    next false is later =
        let none : count_by is_line_feed b ≡ 0 = omega (arith, e, count_first x b) in
        let n : 1 + position_or_len is_line_feed (b ++ rest) ≡ suc (position_or_len is_line_feed (b ++ rest)) = omega arith in
        rw is (ap (λ n. take n (x ∷ (b ++ rest))) n ∙ ap (λ t. x ∷ t) (later none))

line_goes_on : (text : List ℕ) (i j : ℕ) → i ≤ j → j ≤ length text → line_number text i ≡ line_number text j → line_around text i ≡ line_around text j
line_goes_on text i j le inside same =
    let b = slice_range text i j in
    let none : count_by is_line_feed b ≡ 0 = omega (arith, line_moves text i j le) in
    let front : last_line (take j text) ≡ last_line (take i text) ++ b = ap last_line (before_place text i j le) ∙ last_line_goes_on (take i text) b (none_before b none) in
    let n : i + (j - i) ≡ j = omega arith in
    let rest : drop i text ≡ b ++ drop j text = sym (take-append-drop (j - i) (drop i text)) ∙ ap (λ t. b ++ t) (drop-drop (j - i) i text ∙ ap (λ n. drop n text) n) in
    let back : first_line (drop i text) ≡ b ++ first_line (drop j text) = ap first_line rest ∙ first_line_goes_on b (drop j text) none in
    ap (λ t. last_line (take i text) ++ t) back ∙ sym (append_assoc (last_line (take i text)) b (first_line (drop j text))) ∙ ap (λ t. t ++ first_line (drop j text)) (sym front)

-- two places of one line
pub one_line : (text : List ℕ) (i j : ℕ) → i ≤ length text → j ≤ length text → line_number text i ≡ line_number text j → line_around text i ≡ line_around text j
one_line text i j inside_i inside_j same =
    ⊎_elim (λ le. line_goes_on text i j le inside_j same) (λ lt. sym (line_goes_on text j i (omega arith) inside_i (sym same))) (order i j)

-- where every text begins
pub start_is_landmark : (text : List ℕ) → IsUtf8 text → IsLandmark text start
start_is_landmark text utf8 = record {
  between = IsCharBoundary-start text utf8;
  line_column = let n : length (chars (last_line (take 0 text))) ≡ 0 = ap length chars-nil in rw n refl;
  from_one = omega arith;
  fits = omega arith;
}

pub known_line : (text : List ℕ) (a b : Landmark) → IsLandmark text a → IsLandmark text b → a.line ≡ b.line → printed_line text a.place ≡ printed_line text b.place
known_line text a b of_a of_b same =
    let e : line_number text a.place ≡ line_number text b.place = sym (ap (λ p. p.0) of_a.line_column) ∙ same ∙ ap (λ p. p.0) of_b.line_column in
    ap (λ line. encode_utf8_all (filter is_printed (chars line))) (one_line text a.place b.place of_a.between.0 of_b.between.0 e)

pub one_landmark : (text : List ℕ) (m : Landmark) → IsLandmark text m → AreLandmarks text (m ∷ [])
one_landmark text m is = All-cons (IsLandmark text) m [] is (λ k d h. absurd (omega arith))

pub landmarks_more : (text : List ℕ) (ms : List Landmark) (m : Landmark) → AreLandmarks text ms → IsLandmark text m → AreLandmarks text (ms ++ m ∷ [])
landmarks_more text ms m are is = All-push (IsLandmark text) ms m are is

-- a shared line is the line itself
pub same_line : (r : Result (Arc (String Global) Global) AllocError) (line : Arc (String Global) Global) (bytes : List ℕ)
    → MatchResult r (λ copy. arc_value copy ≡ arc_value line) (λ e. ¬ ⊥) → string_bytes (arc_value line) ≡ bytes
    → IfOk r (λ copy. string_bytes (arc_value copy) ≡ bytes)
same_line (Ok copy) line bytes same is = ap string_bytes same ∙ is
same_line (Err e) line bytes same is = tt
