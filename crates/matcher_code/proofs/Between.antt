-- The text that a success takes.
use Rattle.std.proofs.Common.{◌≡◌, refl, sym, ◌∙◌, ap, ap₂, ℕ, ◌+◌, ◌-◌, ◌*◌, ◌≤◌, List, [], ◌∷◌, ◌++◌, true, length, take, drop, replicate, arith, length-append, length-drop}
use Rattle.std.specs.Prelude.{encode_utf8_all}
use Rattle.std.specs.Char.{len_utf8}
use Rattle.std.proofs.Math.Seq.{take-append_seam}
use Rattle.std.proofs.Math.Utf8.{scalars}
use Rattle.std.proofs.lemmas.List.Folds.{sum_by-replicate}
use Rattle.std.proofs.lemmas.List.Sums.{sum_by-append, sum_by-cons}
use Rattle.std.proofs.lemmas.Str.{encodes-chars, len_utf8_bounds, scalars-chars}
use Rattle.base_language.specs.Language.Expression.{Grammar}
use Rattle.base_language.specs.Language.Meaning.{Does, Task}
use Rattle.base_language.specs.Language.Places.{IsStateIn, Nested}
use Rattle.base_language.specs.Language.State.{Classes, None', State, Success, Tree, Trees}
use Rattle.base_language.specs.Language.Text.{Text, size_of}
use Rattle.base_language.proofs.Beginnings.{scalars_parts}
use Rattle.base_language.proofs.InBytes.{sizes}
use Rattle.base_language.proofs.TreesAreNested.{fits}
use Rattle.matcher_code.specs.Reached.{IsAt}
use Rattle.matcher_code.proofs.Leaves.{bytes_left}

-- a text of a given number of bytes
abbrev some_text : ℕ → Text
some_text n = replicate n 97

some_size : (n : ℕ) → size_of (some_text n) ≡ n
some_size n =
    let k : len_utf8 97 ≡ 1 = refl in
    let z : size_of (some_text n) ≡ n * 1 = sum_by-replicate len_utf8 n 97 ∙ ap (λ i. n * i) k in
    omega (arith, z)

ordered : (text : Text) (us : Trees) (i j : ℕ) → Nested text us i j → i ≤ j
ordered text None' i j n = n
ordered text (Tree r a b inner others) i j n = omega (arith, n.0, ordered text inner a b n.3, ordered text others b j n.4)

-- of two beginnings of a text the shorter one is the beginning of the longer one
pub record IsLonger (a b f r : Text) : Type 0 where
  pub more : Text
  pub rest : b ≡ more ++ r
  pub whole : f ≡ a ++ more

head_of : (x y : ℕ) (a b : Text) → x ∷ a ≡ y ∷ b → x ≡ y
head_of x y a b e = cc

tail_of : (x y : ℕ) (a b : Text) → x ∷ a ≡ y ∷ b → a ≡ b
tail_of x y a b e = cc

longer_of : (a b f r : Text) → a ++ b ≡ f ++ r → size_of a ≤ size_of f → IsLonger a b f r
longer_of [] b f r e h = record { more = f; rest = e; whole = refl }
longer_of (x ∷ a) b [] r e h =
    let z : size_of [] ≡ 0 = refl in
    let l = (len_utf8_bounds x).0 in
    absurd (omega (arith, h, z, l, sum_by-cons len_utf8 x a))
longer_of (x ∷ a) b (y ∷ f) r e h =
    let q : x ≡ y = head_of x y (a ++ b) (f ++ r) e in
    let k : len_utf8 x ≡ len_utf8 y = ap len_utf8 q in
    let l : size_of a ≤ size_of f = omega (arith, h, k, sum_by-cons len_utf8 x a, sum_by-cons len_utf8 y f) in
    let z = longer_of a b f r (tail_of x y (a ++ b) (f ++ r) e) l in
    record { more = z.more; rest = z.rest; whole = ap₂ (λ i is. i ∷ is) (sym q) z.whole }

-- the text between two states, as characters and as bytes
pub record IsBetween (text : List ℕ) (s t : State) (at : ℕ) : Type 0 where
  pub front : Text
  pub taken : take (length s.rest - length t.rest) s.rest ≡ front
  pub valid : scalars front ≡ true
  pub bytes : take (t.position - at) (drop at text) ≡ encode_utf8_all front

-- a place is one of a text of that length
pub stands_in : {stack : List (List ℕ)} (text : List ℕ) (s : State) (at : ℕ) → IsAt text s at stack → (whole : Text) × IsStateIn whole s × (size_of whole ≡ length text)
stands_in text s at h =
    let whole = some_text s.position ++ s.rest in
    let k : size_of whole ≡ size_of (some_text s.position) + size_of s.rest = sum_by-append len_utf8 (some_text s.position) s.rest in
    let r : encode_utf8_all s.rest ≡ drop at text = ap encode_utf8_all h.rest ∙ encodes-chars (drop at text) h.valid in
    let n : length (encode_utf8_all s.rest) ≡ length (drop at text) = ap length r in (
      whole,
      record { front = some_text s.position; split = refl; size = sym (some_size s.position) },
      omega (arith, k, n, sizes s.rest, some_size s.position, h.position, h.within, length-drop at text),
    )

pub between : {g : Grammar} {classes : Classes} {k : Task} {s t : State} {us : Trees} {text : List ℕ} {at : ℕ} {stack : List (List ℕ)}
    → Does g classes k s (Success t us) → IsAt text s at stack → IsBetween text s t at
between {s = s} {t = t} {us = us} {text = text} {at = at} d h =
    let whole = some_text s.position ++ s.rest in
    let x = fits whole d (record { front = some_text s.position; split = refl; size = sym (some_size s.position) }) in
    let o = ordered whole us s.position t.position x.1 in
    let y = longer_of (some_text s.position) s.rest x.0.front t.rest x.0.split (omega (arith, o, x.0.size, some_size s.position)) in
    let l : length s.rest ≡ length y.more + length t.rest = ap length y.rest ∙ length-append y.more t.rest in
    let n : length s.rest - length t.rest ≡ length y.more = omega (arith, l) in
    let z : size_of x.0.front ≡ size_of (some_text s.position) + size_of y.more = ap size_of y.whole ∙ sum_by-append len_utf8 (some_text s.position) y.more in
    let m : t.position - at ≡ length (encode_utf8_all y.more) = omega (arith, z, x.0.size, some_size s.position, h.position, sizes y.more) in
    record {
      front = y.more;
      taken = ap₂ take n y.rest ∙ take-append_seam y.more t.rest;
      valid = (scalars_parts y.more t.rest (ap scalars (sym y.rest ∙ h.rest) ∙ scalars-chars (drop at text) h.valid)).0;
      bytes = ap₂ take m (bytes_left text s at y.more t.rest h y.rest) ∙ take-append_seam (encode_utf8_all y.more) (encode_utf8_all t.rest);
    }
