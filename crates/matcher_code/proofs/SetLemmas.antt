-- Sets of characters, by sets of flags.
use Rattle.std.proofs.Common.{◌≡◌, ℕ, zero, suc, ◌+◌, ◌*◌, ◌<◌, ◌≤◌, ◌&&◌, ◌||◌, List, [], ◌∷◌, ◌++◌, Bool, true, false, inl, inr, refl, ap, sym, ◌∙◌, ◌⊎◌, get_or, length, map, nat_lt, take, chars, arith, if◌then◌else◌}
use Rattle.std.specs.Prelude.{encode_utf8_all}
use Rattle.std.proofs.lemmas.Bool.{cases_lt}
use Rattle.std.proofs.lemmas.List.{get_or-append-add, length-map, map-append}
use Rattle.std.proofs.Math.Seq.{get_or-append_seam}
use Rattle.std.proofs.lemmas.Str.{char_from_byte, encodes-chars, len_utf8_ascii, IsCharBoundary-start}
use Rattle.base_language.specs.Language.Builtins.{is_between}
use Rattle.matcher_code.specs.Lists.{CodeLists, is_covered}
use Rattle.matcher_code.specs.Reading.{char_len, first_of, flag, len_among, no_characters, set_of}
use Rattle.matcher_code.specs.Sets.{IsByteSetOf, IsSetOf, flag_of}

-- a text that begins with a byte of ASCII begins with that character
first_of_ascii : (ranges : List (ℕ × ℕ)) (cs : List ℕ) (b : ℕ) (bs : List ℕ) → encode_utf8_all cs ≡ b ∷ bs → b < 128
    → first_of ranges cs ≡ (if is_covered ranges b then 1 else 0)
first_of_ascii ranges [] b bs e h = absurd (cc)
first_of_ascii ranges (c ∷ cs) b bs e h =
    let k : c ≡ b = char_from_byte (b ∷ bs) (encode_utf8_all cs) c (sym e) h (omega arith) in
    rw (k, len_utf8_ascii b h) refl

below : (ranges : List (ℕ × ℕ)) (b : ℕ) → b < 128 → flag_of ranges b ≡ (if is_covered ranges b then 1 else 0)
below ranges b h = let t : nat_lt b 128 ≡ true = grind arith in rw t refl

above : (ranges : List (ℕ × ℕ)) (b : ℕ) → 128 ≤ b → flag_of ranges b ≡ 5
above ranges b h = let t : nat_lt b 128 ≡ false = grind arith in rw t refl

taken_below : (code : CodeLists) (set b : ℕ) (bs : List ℕ) → flag code set b ≤ 4 → char_len code set (b ∷ bs) ≡ flag code set b
taken_below code set b bs h = let t : nat_lt 4 (flag code set b) ≡ false = grind arith in rw t refl

taken_above : (code : CodeLists) (set b : ℕ) (bs : List ℕ) → 4 < flag code set b → 192 ≤ b
    → char_len code set (b ∷ bs) ≡ len_among (set_of code set) (chars (b ∷ bs))
taken_above code set b bs h k =
    let t : nat_lt 4 (flag code set b) ≡ true = grind arith in
    let s : nat_lt b 192 ≡ false = grind arith in
    rw (t, s) refl

small : (x : Bool) → (if x then 1 else 0) ≤ 4
small true = omega arith
small false = omega arith

-- a set with such flags and ranges
pub means_ranges : (code : CodeLists) (set : ℕ) (ranges : List (ℕ × ℕ)) → set_of code set ≡ is_covered ranges
    → ((b : ℕ) → b < 256 → flag code set b ≡ flag_of ranges b) → IsSetOf code set ranges
means_ranges code set ranges e f b bs h u =
    elim (cases_lt b 128) [
      | inl k ↦
          let g = f b h ∙ below ranges b k in
          let l : flag code set b ≤ 4 = rw g (small (is_covered ranges b)) in
          taken_below code set b bs l ∙ (g ∙ sym (first_of_ascii ranges (chars (b ∷ bs)) b bs (encodes-chars (b ∷ bs) u) k))
      | inr k ↦
          let g = f b h ∙ above ranges b k in
          let l : 4 < flag code set b = omega (arith, g) in
          let m : 192 ≤ b = (IsCharBoundary-start (b ∷ bs) u).1 (omega arith) k in
          taken_above code set b bs l m ∙ ap (λ s. len_among s (chars (b ∷ bs))) e
    ]

-- the last of a list, seen by a function
pub last_mapped : {X : Type 0} (p : X → (ℕ → Bool)) (xs ys : List X) (x : X) (n : ℕ) → ys ≡ xs ++ x ∷ []
    → n ≡ length xs → get_or (map p ys) n no_characters ≡ p x
last_mapped p xs ys x n e h =
    let l : length (map p xs) ≡ n = simp length-map (sym h) in
    rw (e, map-append) (ap (λ i. get_or (map p xs ++ p x ∷ []) i no_characters) (sym l) ∙ get_or-append_seam (map p xs) (p x) [] no_characters)

-- a set whose byte_set was added behind the others
pub set_added : (new : CodeLists) (sets byte_set : List ℕ) (ranges : List (ℕ × ℕ)) (set : ℕ) → new.byte_sets ≡ sets ++ byte_set
    → length sets ≡ set * 256 → IsByteSetOf ranges byte_set → set_of new set ≡ is_covered ranges → IsSetOf new set ranges
set_added new sets byte_set ranges set e l w r =
    means_ranges new set ranges r (λ b h.
    ap (λ items. get_or items (set * 256 + b) 0) e
    ∙ (ap (λ n. get_or (sets ++ byte_set) (n + b) 0) (sym l) ∙ (get_or-append-add sets byte_set b 0 ∙ w.told b h)))

or_assoc : (a b c : Bool) → (a || (b || c)) ≡ ((a || b) || c)
or_assoc true b c = refl
or_assoc false b c = refl

or_none : (b : Bool) → (b || false) ≡ b
or_none true = refl
or_none false = refl

-- one range more
covered_more : (ranges : List (ℕ × ℕ)) (i : ℕ) (d : ℕ × ℕ) (c : ℕ) → i < length ranges
    → is_covered (take (suc i) ranges) c ≡ (is_covered (take i ranges) c || is_between (get_or ranges i d).0 (get_or ranges i d).1 c)
covered_more [] i d c h = absurd (omega (arith, h))
covered_more (r ∷ rs) zero d c h = or_none (is_between r.0 r.1 c)
covered_more (r ∷ rs) (suc i) d c h =
    let k : i < length rs = omega (arith, h) in
    ap (λ b. is_between r.0 r.1 c || b) (covered_more rs i d c k)
    ∙ or_assoc (is_between r.0 r.1 c) (is_covered (take i rs) c) (is_between (get_or rs i d).0 (get_or rs i d).1 c)

marked : (x y : Bool) (n : ℕ) → n ≡ (if x then 1 else 0) → (if y then 1 else n) ≡ (if x || y then 1 else 0)
marked true true n e = refl
marked true false n e = e
marked false true n e = refl
marked false false n e = e

pub rule_more : (ranges : List (ℕ × ℕ)) (i j : ℕ) (d : ℕ × ℕ) (old new : List ℕ) → i < length ranges → j ≡ suc i → IsByteSetOf (take i ranges) old
    → length new ≡ 256 → ((b : ℕ) → get_or new b 0
    ≡ (if nat_lt b 128 && is_between (get_or ranges i d).0 (get_or ranges i d).1 b then 1 else get_or old b 0))
    → IsByteSetOf (take j ranges) new
rule_more ranges i j d old new h e r l marks = record {
  long = l;
  told = λ b k. go b k (cases_lt b 128) ∙ ap (λ n. flag_of (take n ranges) b) (sym e);
}
  where
    go : (b : ℕ) → b < 256 → (b < 128) ⊎ (128 ≤ b) → get_or new b 0 ≡ flag_of (take (suc i) ranges) b
    go b k (inl m) =
        let t : nat_lt b 128 ≡ true = grind arith in
        let x = is_covered (take i ranges) b in
        let y = is_between (get_or ranges i d).0 (get_or ranges i d).1 b in
        marks b ∙ (ap (λ z. if z && y then 1 else get_or old b 0) t
        ∙ (marked x y (get_or old b 0) (r.told b k ∙ below (take i ranges) b m)
        ∙ (ap (λ z. if z then 1 else 0) (sym (covered_more ranges i d b h)) ∙ sym (below (take (suc i) ranges) b m))))
    go b k (inr m) =
        let t : nat_lt b 128 ≡ false = grind arith in
        let y = is_between (get_or ranges i d).0 (get_or ranges i d).1 b in
        marks b ∙ (ap (λ z. if z && y then 1 else get_or old b 0) t
        ∙ (r.told b k ∙ (above (take i ranges) b m ∙ sym (above (take (suc i) ranges) b m))))
