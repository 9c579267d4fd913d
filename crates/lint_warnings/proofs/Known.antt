-- Texts that are known by their bytes, and which of them begin a text.
use Rattle.std.proofs.Common.{◌≡◌, ℕ, suc, ◌<◌, List, [], ◌∷◌, ◌++◌, Bool, true, false, ◌||◌, inl, inr, Bor, cond, refl, sym, ap, ◌∙◌, subst, bytes_eq, chars, nat_eq, get_or, take, drop, length, ◌==◌, eqb-true, arith, Result, Ok, Err, OnOk}
use lib.Utf8.{scalars}
use Rattle.std.specs.HashSet as bag
use Rattle.std.specs.List.{list_any}
use Rattle.std.specs.Str.{IsUtf8, IsCharBoundary}
use Rattle.std.proofs.Math.Seq.{take-append_seam}
use Rattle.std.proofs.Math.Utf8.{encodes}
use Rattle.std.proofs.lemmas.List.{take-append-drop}
use Rattle.std.proofs.lemmas.Slice.Eq.{bytes_eq-Decides}
use Rattle.std.proofs.lemmas.Str.{encodes-chars, encodes-append, chars-encodes, chars-append, scalars-chars, IsUtf8-take, IsCharBoundary-at_seam}
use Rattle.std.proofs.lemmas.Bool.{false_from_ne_true, or_cases, or_left, or_right}
use Rattle.base_ast.proofs.Characters.{bytes_text_eq}
use Rattle.base_language.specs.Language.Builtins.{is_one_of}
use Rattle.base_language.specs.Language.Matching.{any_begins, begins}
use Rattle.base_language.specs.Language.Text.{Text}
use Rattle.base_language.proofs.Beginnings.{begins-append, begins-gives, scalars_parts}
use Rattle.lint_warnings.specs.Lists.{IsKnown, Knows, TextSet, has_name}
use Rattle.lint_warnings.specs.declared.literals.Literals.{Literals}
use Rattle.lint_warnings.proofs.Called.{is_one_of-append}

-- the bytes of an insertion
abbrev pub borrowed : List ℕ → Bor (List ℕ)
borrowed t = record { ref_ptr = (0, 0); now = t }

abbrev pub same_text : Bor (List ℕ) → Bor (List ℕ) → Bool
same_text x y = bytes_eq x.now y.now

pub inserted : (old new : TextSet) (key : Bor (List ℕ)) (text : List ℕ) → bag.Updates same_text old new key true → has_name new text ≡ cond (bytes_eq key.now text) true (has_name old text)
inserted old new key text u = u.0 (borrowed text)

cond_or : (b h : Bool) → cond b true h ≡ (h || (b || false))
cond_or true true = refl
cond_or true false = refl
cond_or false true = refl
cond_or false false = refl

-- one text more
pub knows_more : (texts : List Text) (old new : Literals) (key : Bor (List ℕ)) → IsUtf8 key.now → bag.Updates same_text old.texts new.texts key true
    → list_any (λ n. n == length key.now) new.lengths.items ≡ true
    → ((m : ℕ) → list_any (λ n. n == m) old.lengths.items ≡ true → list_any (λ n. n == m) new.lengths.items ≡ true)
    → Knows texts old → Knows (texts ++ chars key.now ∷ []) new
knows_more texts old new key utf8 updates there kept k = record {
  has = λ text u.
      inserted old.texts new.texts key text updates
      ∙ (ap (λ b. cond b true (has_name old.texts text)) (bytes_text_eq key.now text utf8 u)
      ∙ (cond_or (bytes_eq (chars key.now) (chars text)) (has_name old.texts text)
      ∙ (ap (λ b. b || (bytes_eq (chars key.now) (chars text) || false)) (k.has text u)
      ∙ sym (is_one_of-append texts (chars key.now ∷ []) (chars text)))));
  lengths = λ text u h. elim (or_cases (is_one_of texts (chars text)) (bytes_eq (chars key.now) (chars text) || false) (sym (is_one_of-append texts (chars key.now ∷ []) (chars text)) ∙ h)) [
    | inl a ↦ kept (length text) (k.lengths text u a)
    | inr b ↦ elim (or_cases (bytes_eq (chars key.now) (chars text)) false b) [
      | inl e ↦
          let same : key.now ≡ text = sym (encodes-chars key.now utf8) ∙ (ap encodes ((bytes_eq-Decides (chars key.now) (chars text)).0 e) ∙ encodes-chars text u) in
          subst (λ t. list_any (λ n. n == length t) new.lengths.items ≡ true) same there
      | inr e ↦ cc
    ]
  ];
}

-- one of the texts, with something after it
one_begins : (ts : List Text) (a b : Text) → is_one_of ts a ≡ true → any_begins ts (a ++ b) ≡ true
one_begins [] a b h = cc
one_begins (t ∷ ts) a b h = elim (or_cases (bytes_eq t a) (is_one_of ts a) h) [
  | inl e ↦ or_left (begins nat_eq t (a ++ b)) (any_begins ts (a ++ b)) (rw ((bytes_eq-Decides t a).0 e) (begins-append a b))
  | inr k ↦ or_right (begins nat_eq t (a ++ b)) (any_begins ts (a ++ b)) (one_begins ts a b k)
]

pub begins_found : (texts : List Text) (l : Literals) (text : List ℕ) (n : ℕ) → IsUtf8 text → Knows texts l → IsCharBoundary text n → IsKnown l (take n text) ≡ true → any_begins texts (chars text) ≡ true
begins_found texts l text n u k b h =
    let front : IsUtf8 (take n text) = IsUtf8-take text n u b in
    let whole : chars text ≡ chars (take n text) ++ chars (drop n text) = ap chars (sym (take-append-drop n text)) ∙ chars-append (take n text) (drop n text) front in
    ap (any_begins texts) whole ∙ one_begins texts (chars (take n text)) (chars (drop n text)) (sym (k.has (take n text) front) ∙ h)

-- a text that begins another is one of those
some_begins : (ts : List Text) (t : Text) → any_begins ts t ≡ true → (v : Text) × (is_one_of ts v ≡ true) × (begins nat_eq v t ≡ true)
some_begins [] t h = cc
some_begins (u ∷ ts) t h = elim (or_cases (begins nat_eq u t) (any_begins ts t) h) [
  | inl e ↦ (u, or_left (bytes_eq u u) (is_one_of ts u) ((bytes_eq-Decides u u).1 refl), e)
  | inr k ↦ let s = some_begins ts t k in (s.0, or_right (bytes_eq u s.0) (is_one_of ts s.0) s.1, s.2)
]

-- a number that is among some
length_at : (ns : List ℕ) (m : ℕ) → list_any (λ n. n == m) ns ≡ true → (k : ℕ) × (k < length ns) × (get_or ns k 0 ≡ m)
length_at [] m h = cc
length_at (n ∷ ns) m h = elim (or_cases (n == m) (list_any (λ n. n == m) ns) h) [
  | inl e ↦ (0, omega arith, eqb-true n m e)
  | inr k ↦ let p = length_at ns m k in (suc p.0, omega (arith, p.1), p.2)
]

pub begins_missing : (texts : List Text) (l : Literals) (text : List ℕ) → IsUtf8 text → Knows texts l
    → ((k : ℕ) → k < length l.lengths.items → IsCharBoundary text (get_or l.lengths.items k 0) → IsKnown l (take (get_or l.lengths.items k 0) text) ≡ false)
    → any_begins texts (chars text) ≡ false
begins_missing texts l text utf8 k none = false_from_ne_true (any_begins texts (chars text)) (λ h.
    let s = some_begins texts (chars text) h in
    let v : Text = s.0 in
    let r = begins-gives v (chars text) s.2 in
    let p = scalars_parts v r.0 (ap scalars (sym r.1) ∙ scalars-chars text utf8) in
    let u : List ℕ = encodes v in
    let back : List ℕ = encodes r.0 in
    let split : text ≡ u ++ back = sym (encodes-chars text utf8) ∙ (ap encodes r.1 ∙ encodes-append v r.0) in
    let known : IsUtf8 u = (v, (p.0, refl)) in
    let spelled : is_one_of texts (chars u) ≡ true = ap (is_one_of texts) (chars-encodes v p.0) ∙ s.1 in
    let index = length_at l.lengths.items (length u) (k.lengths u known spelled) in
    let bound : IsCharBoundary text (length u) = IsCharBoundary-at_seam text u back split (r.0, (p.1, refl)) in
    let front : take (length u) text ≡ u = ap (take (length u)) split ∙ take-append_seam u back in
    let there : IsKnown l (take (length u) text) ≡ true = ap (has_name l.texts) front ∙ (k.has u known ∙ spelled) in
    let missing : IsKnown l (take (length u) text) ≡ false = subst (λ m. IsCharBoundary text m → IsKnown l (take m text) ≡ false) index.2 (none index.0 index.1) bound in
    absurd (let e : true ≡ false = sym there ∙ missing in cc))

pub ok_map : {X Y : Type 0} (r : Result X Y) (A B : Type 0) → OnOk r A → (A → B) → OnOk r B
ok_map (Ok x) A B a f = f a
ok_map (Err e) A B a f = tt

pub both_ok : {X Y : Type 0} (r : Result X Y) (A B C : Type 0) → OnOk r A → OnOk r B → (A → B → C) → OnOk r C
both_ok (Ok x) A B C a b f = f a b
both_ok (Err e) A B C a b f = tt
