-- Lists that stand one after another are the parts that end where they end.
use Rattle.std.proofs.Common.{◌≡◌, ◌∙◌, ◌<◌, ◌≤◌, ◌+◌, ◌-◌, ◌*◌, ◌/◌, ◌^◌, ℕ, zero, suc, List, [], ◌∷◌, ◌++◌, ap, ap₂, append_assoc, arith, drop, flat_map, get_or, length, length-append, length-drop, map, refl, sym, take}
use Rattle.std.specs.Borrow.{Bor}
use Rattle.std.proofs.Math.Seq.{drop-append_seam, take-append_seam}
use Rattle.std.specs.Simd.{first_chunks}
use Rattle.std.proofs.lemmas.List.{drop-append-le, length-map, map-append, take-append-le}
use Rattle.matcher_code.specs.Words.{part, parts_from, parts_in, pieces, word, words_in}
use Rattle.std.specs.Int.{to_le_bytes, w32}
use Rattle.matcher_code.proofs.Pieces.{empty, words_more}
use Rattle.format_code.specs.Sections.{ends_from, section}

abbrev joined : {A : Type 0} → List (List A) → List A
joined xss = flat_map (λ xs. xs) xss

parts_back : {A : Type 0} (n : ℕ) (before : List A) (xss : List (List A)) → length before ≡ n
    → parts_from n (ends_from n xss) (before ++ joined xss) ≡ xss
parts_back n before [] h = refl
parts_back n before (xs ∷ xss) h =
    let whole = before ++ (xs ++ joined xss) in
    let size : (n + length xs) - n ≡ length xs = omega arith in
    let behind : drop n whole ≡ xs ++ joined xss =
    ap (λ m. drop m whole) (sym h) ∙ drop-append_seam before (xs ++ joined xss) in
    let first : part whole n (n + length xs) ≡ xs = ap₂ take size behind ∙ take-append_seam xs (joined xss) in
    let after : length (before ++ xs) ≡ n + length xs = length-append before xs ∙ ap (λ m. m + length xs) h in
    let rest = ap (parts_from (n + length xs) (ends_from (n + length xs) xss)) (sym (append_assoc before xs (joined xss)))
    ∙ parts_back (n + length xs) (before ++ xs) xss after in
    ap₂ (λ ys yss. ys ∷ yss) first rest

joined_now : {A : Type 0} (xss : List (Bor (List A))) → flat_map (λ x. x.now) xss ≡ joined (map (λ x. x.now) xss)
joined_now [] = refl
joined_now (x ∷ xs) = ap (λ rest. x.now ++ rest) (joined_now xs)

pub parts_are : {A : Type 0} (xss : List (Bor (List A)))
    → parts_in (0 ∷ ends_from 0 (map (λ x. x.now) xss)) (flat_map (λ x. x.now) xss) ≡ map (λ x. x.now) xss
parts_are xss =
    let all = map (λ x. x.now) xss in
    ap (parts_from 0 (ends_from 0 all)) (joined_now xss) ∙ parts_back 0 [] all refl

-- the first parts, where there are more places
front : {A : Type 0} (n : ℕ) (ends more : List ℕ) (xs : List A) (k : ℕ) → k < length ends
    → get_or (parts_from n (ends ++ more) xs) k [] ≡ get_or (parts_from n ends xs) k []
front n [] more xs k h = absurd (omega (arith, h))
front n (e ∷ es) more xs zero h = refl
front n (e ∷ es) more xs (suc k) h = front e es more xs k (omega (arith, h))

-- pieces of four bytes, behind others
chunks_on : (k m : ℕ) (xs ys : List ℕ) → length xs ≡ k * 4
    → first_chunks 4 (k + m) (xs ++ ys) ≡ first_chunks 4 k xs ++ first_chunks 4 m ys
chunks_on zero m xs ys h =
    let none : xs ≡ [] = empty xs (omega (arith, h)) in
    let e : 0 + m ≡ m = omega arith in
    ap (λ n. first_chunks 4 n (xs ++ ys)) e ∙ ap (λ zs. first_chunks 4 m (zs ++ ys)) none
chunks_on (suc k) m xs ys h =
    let e : suc k + m ≡ suc (k + m) = omega arith in
    let long : 4 ≤ length xs = omega (arith, h) in
    let left : length (drop 4 xs) ≡ k * 4 = length-drop 4 xs ∙ omega (arith, h) in
    ap (λ n. first_chunks 4 n (xs ++ ys)) e
    ∙ ap₂ (λ p ps. p ∷ ps) (take-append-le 4 xs ys long)
    (ap (first_chunks 4 (k + m)) (drop-append-le 4 xs ys long) ∙ chunks_on k m (drop 4 xs) ys left)

words_on : (k : ℕ) (xs ys : List ℕ) → length xs ≡ k * 4 → words_in (xs ++ ys) ≡ words_in xs ++ words_in ys
words_on k xs ys h =
    let both = length-append xs ys in
    let all : length (xs ++ ys) / 4 ≡ k + length ys / 4 = omega (arith, both, h) in
    let one : length xs / 4 ≡ k = omega (arith, h) in
    ap (λ n. map word (first_chunks 4 n (xs ++ ys))) all
    ∙ (ap (map word) (chunks_on k (length ys / 4) xs ys h ∙ ap (λ n. first_chunks 4 n xs ++ pieces 4 ys) (sym one))
    ∙ map-append word (pieces 4 xs) (pieces 4 ys))

-- a word in front of others
pub word_first : (w : ℕ) (ys : List ℕ) → w < 2 ^ 32 → words_in (to_le_bytes w32 w ++ ys) ≡ w ∷ words_in ys
word_first w ys h = words_on 1 (to_le_bytes w32 w) ys refl ∙ ap (λ ws. ws ++ words_in ys) (words_more 0 [] w refl h)

length_ends : {A : Type 0} (n : ℕ) (xss : List (List A)) → length (ends_from n xss) ≡ length xss
length_ends n [] = refl
length_ends n (xs ∷ xss) = omega (arith, length_ends (n + length xs) xss)

-- sections behind their places
pub section_is : (start : ℕ) (xss : List (Bor (List ℕ))) (places words rest bytes : List ℕ)
    → start ≡ (length xss + 1) * 4 → places ≡ start ∷ ends_from start (map (λ x. x.now) xss)
    → words_in words ≡ places → length words ≡ length places * 4 → rest ≡ flat_map (λ x. x.now) xss
    → bytes ≡ words ++ rest → (k : ℕ) → k < length xss
    → section bytes k ≡ get_or (map (λ x. x.now) xss) k []
section_is start xss places words rest bytes begins lies written long joined_is same k h =
    let all = map (λ x. x.now) xss in
    let many : length all ≡ length xss = length-map xss (λ x. x.now) in
    let ends : length (ends_from start all) ≡ length xss = length_ends start all ∙ many in
    let count : length places ≡ length xss + 1 = ap length lies ∙ omega (arith, ends) in
    let size : length words ≡ start = omega (arith, long, count, begins) in
    let told : words_in bytes ≡ start ∷ (ends_from start all ++ words_in rest) =
    ap words_in same ∙ (words_on (length places) words rest long ∙ ap (λ ns. ns ++ words_in rest) (written ∙ lies)) in
    let content : bytes ≡ words ++ joined all = same ∙ ap (λ r. words ++ r) (joined_is ∙ joined_now xss) in
    ap (λ ns. get_or (parts_in ns bytes) k []) told
    ∙ (front start (ends_from start all) (words_in rest) bytes k (omega (arith, ends, h))
    ∙ (ap (λ bs. get_or (parts_from start (ends_from start all) bs) k []) content
    ∙ ap (λ yss. get_or yss k []) (parts_back start words all size)))
