-- How the characters of a literal are matched and read.
use Rattle.std.proofs.Common.{◌≡◌, refl, sym, ap, subst, ℕ, ◌+◌, ◌/◌, ◌%◌, ◌<◌, [], ◌∷◌, ◌++◌, Bool, true, false, ◌||◌, nat_eq, nat_lt, ◌==◌, if◌then◌else◌, codes, arith, eqb-true, ne_eqb, ltb-true, ltb-false, lt-ltb, le-leb, leb-true, eq-eqb, nat_le}
use Rattle.std.proofs.lemmas.Bool.{lt-leb}
use Rattle.std.proofs.lemmas.Str.{digit_value-digit_char}
use Rattle.std.proofs.Math.Nat.{div-add-mod'}
use Rattle.std.specs.Char.{digit_value}
use Rattle.base_language.specs.Language.Text.{Text}
use Rattle.base_language.specs.Language.Expression.{whitespace, comment}
use Rattle.base_language.specs.Language.State.{AtomicMode, None', Success, Failure}
use Rattle.base_language.specs.Language.Builtins.{is_between}
use Rattle.base_ast.specs.Printing.{escaped, is_control, numbered, hex_digit}
use Rattle.base_language.specs.Language.Meaning.{Run, from_to}
use Rattle.base_language.specs.declared.grammar.Rule.TheVariants as is
use Rattle.base_language.proofs.Basics.{second_of_both}
use Rattle.front_grammar.specs.MetaGrammar.{rule}
use Rattle.front_reader.specs.Literal as literal
use Rattle.front_reader.specs.Literal.{unescaped}
use Rattle.pest_meta.proofs.Deriving.{at, Gives, str, range, call, seq, seq_first, left, right, opt, opt_none, rep_min_max, atomic}
use Rattle.pest_meta.proofs.Characters.{past, range_takes, range_misses}

-- a character as it is written between quotes: itself, or by an escape
pub data CharacterForm (q c : ℕ) (w : Text) : Type 0 where
  as_itself : w ≡ c ∷ [] → nat_eq q c ≡ false → nat_eq 92 c ≡ false → CharacterForm q c w
  by_escape : (v : Text) → w ≡ 92 ∷ v → ((K : Text) (p : ℕ) → (r : ℕ) × Gives (Run AtomicMode (rule is.escape)) (at p (92 ∷ (v ++ K))) (Success (at r K) None')) → ((K : Text) → unescaped (92 ∷ (v ++ K)) ≡ c ∷ unescaped K) → CharacterForm q c w

-- the escapes_before of one character
quote_form : (q : ℕ) → CharacterForm q 34 (92 ∷ 34 ∷ [])
unfolding whitespace comment
quote_form q = by_escape (34 ∷ []) refl (λ K p. (p + 1 + 1, call is.escape refl (seq str atomic (left (left (left (left (left (left (left (left str))))))))))) (λ K. refl)

backslash_form : (q : ℕ) → CharacterForm q 92 (92 ∷ 92 ∷ [])
unfolding whitespace comment
backslash_form q = by_escape (92 ∷ []) refl (λ K p. (p + 1 + 1, call is.escape refl (seq str atomic (left (left (left (left (left (left (left (right str str))))))))))) (λ K. refl)

return_form : (q : ℕ) → CharacterForm q 13 (92 ∷ 114 ∷ [])
unfolding whitespace comment
return_form q = by_escape (114 ∷ []) refl (λ K p. (p + 1 + 1, call is.escape refl (seq str atomic (left (left (left (left (left (left (right (right str str) str)))))))))) (λ K. refl)

feed_form : (q : ℕ) → CharacterForm q 10 (92 ∷ 110 ∷ [])
unfolding whitespace comment
feed_form q = by_escape (110 ∷ []) refl (λ K p. (p + 1 + 1, call is.escape refl (seq str atomic (left (left (left (left (left (right (right (right str str) str) str))))))))) (λ K. refl)

tab_form : (q : ℕ) → CharacterForm q 9 (92 ∷ 116 ∷ [])
unfolding whitespace comment
tab_form q = by_escape (116 ∷ []) refl (λ K p. (p + 1 + 1, call is.escape refl (seq str atomic (left (left (left (left (right (right (right (right str str) str) str) str)))))))) (λ K. refl)

null_form : (q : ℕ) → CharacterForm q 0 (92 ∷ 48 ∷ [])
unfolding whitespace comment
null_form q = by_escape (48 ∷ []) refl (λ K p. (p + 1 + 1, call is.escape refl (seq str atomic (left (left (left (right (right (right (right (right str str) str) str) str) str))))))) (λ K. refl)

single_form : (q : ℕ) → CharacterForm q 39 (92 ∷ 39 ∷ [])
unfolding whitespace comment
single_form q = by_escape (39 ∷ []) refl (λ K p. (p + 1 + 1, call is.escape refl (seq str atomic (left (left (right (right (right (right (right (right str str) str) str) str) str) str)))))) (λ K. refl)

-- a digit
record Digit (x v : ℕ) : Type 0 where
  value : literal.hex_digit_value x ≡ v
  no_brace : nat_eq x 125 ≡ false
  takes : (K : Text) (p : ℕ) → (r : ℕ) × Gives (Run AtomicMode (rule is.hex_digit)) (at p (x ∷ K)) (Success (at r K) None')

digit : (v : ℕ) → v < 16 → Digit (hex_digit v) v
unfolding whitespace comment
digit v h =
    let e : digit_value (hex_digit v) ≡ v = digit_value-digit_char v (omega (arith, h)) in
    let value : literal.hex_digit_value (hex_digit v) ≡ v = rw (e, lt-ltb v 16 h) refl in
    let (n, t) = go (nat_lt v 10) refl in
    record { value = value; no_brace = n; takes = t }
  where
    go : (b : Bool) → nat_lt v 10 ≡ b → (nat_eq (if b then 48 + v else 87 + v) 125 ≡ false) × ((K : Text) (p : ℕ) → (r : ℕ) × Gives (Run AtomicMode (rule is.hex_digit)) (at p ((if b then 48 + v else 87 + v) ∷ K)) (Success (at r K) None'))
    go true e =
        let i = ltb-true v 10 e in (
          ne_eqb (48 + v) 125 (λ k. omega (arith, i, k)),
          λ K p. (past p (48 + v), call is.hex_digit refl (left (left (range_takes 48 57 (48 + v) K p (rw (le-leb 48 (48 + v) (omega arith), le-leb (48 + v) 57 (omega (arith, i))) refl))))),
        )
    go false e =
        let i = ltb-false v 10 e in (
          ne_eqb (87 + v) 125 (λ k. omega (arith, h, k)),
          λ K p. (
            past p (87 + v),
            call is.hex_digit refl (left (right
                (range_misses 48 57 (87 + v) K p (rw (le-leb 48 (87 + v) (omega arith), lt-leb (87 + v) 57 (omega (arith, i))) refl))
                (range_takes 97 102 (87 + v) K p (rw (le-leb 97 (87 + v) (omega (arith, i)), le-leb (87 + v) 102 (omega (arith, h))) refl)))),
          ),
        )

brace_fails : (K : Text) (p : ℕ) → Gives (Run AtomicMode (rule is.hex_digit)) (at p (125 ∷ K)) Failure
unfolding whitespace comment
brace_fails K p = call is.hex_digit refl (right (right range range) range)

unicode_two : (x y v w : ℕ) → Digit x v → Digit y w → (K : Text) (p : ℕ) → (r : ℕ) × Gives (Run AtomicMode (rule is.escape)) (at p (92 ∷ 117 ∷ 123 ∷ x ∷ y ∷ 125 ∷ K)) (Success (at r K) None')
unfolding whitespace comment
unicode_two x y v w a b K p =
    let (q, d) = a.takes (y ∷ 125 ∷ K) (p + 1 + 1 + 1) in
    let (r, e) = b.takes (125 ∷ K) q in
    let none = opt_none (brace_fails K r) in
    let copies : Gives (Run AtomicMode (from_to (rule is.hex_digit) 2 6)) (at (p + 1 + 1 + 1) (x ∷ y ∷ 125 ∷ K)) (Success (at r (125 ∷ K)) None') =
    seq d atomic (seq e atomic (seq none atomic (seq none atomic (seq none atomic none)))) in (
      r + 1,
      call is.escape refl (seq str atomic
          (right (right (right (right (right (right (right (right str str) str) str) str) str) str) (call is.code refl (seq_first (seq_first str))))
          (call is.unicode refl (seq (seq (seq str atomic (call is.opening_brace refl str)) atomic (rep_min_max copies)) atomic (call is.closing_brace refl str))))),
    )

control_form : (q c : ℕ) → c < 256 → CharacterForm q c (numbered c)
control_form q c h =
    let a : Digit (hex_digit (c / 16)) (c / 16) = digit (c / 16) (omega arith) in
    let b : Digit (hex_digit (c % 16)) (c % 16) = digit (c % 16) (omega arith) in
    by_escape (117 ∷ 123 ∷ hex_digit (c / 16) ∷ hex_digit (c % 16) ∷ 125 ∷ []) refl
    (unicode_two (hex_digit (c / 16)) (hex_digit (c % 16)) (c / 16) (c % 16) a b)
    (λ K. rw (a.no_brace, b.no_brace, a.value, b.value) (ap (λ n. n ∷ unescaped K) (omega (arith, div-add-mod' c 16))))

-- U+2028 and U+2029
separator_form : (q : ℕ) → CharacterForm q 0x2028 (codes "\\u{2028}")
unfolding whitespace comment
separator_form q = by_escape (117 ∷ 123 ∷ 50 ∷ 48 ∷ 50 ∷ 56 ∷ 125 ∷ []) refl
    (λ K p.
    let none = opt_none (brace_fails K (p + 1 + 1 + 1 + 1 + 1 + 1 + 1)) in
    let two : (L : Text) (k : ℕ) → Gives (Run AtomicMode (rule is.hex_digit)) (at k (50 ∷ L)) (Success (at (k + 1) L) None') = λ L k. call is.hex_digit refl (left (left range)) in
    let zero_ : (L : Text) (k : ℕ) → Gives (Run AtomicMode (rule is.hex_digit)) (at k (48 ∷ L)) (Success (at (k + 1) L) None') = λ L k. call is.hex_digit refl (left (left range)) in
    let last : (L : Text) (k : ℕ) → Gives (Run AtomicMode (rule is.hex_digit)) (at k (56 ∷ L)) (Success (at (k + 1) L) None') = λ L k. call is.hex_digit refl (left (left range)) in
    let copies : Gives (Run AtomicMode (from_to (rule is.hex_digit) 2 6)) (at (p + 1 + 1 + 1) (50 ∷ 48 ∷ 50 ∷ 56 ∷ 125 ∷ K)) (Success (at (p + 1 + 1 + 1 + 1 + 1 + 1 + 1) (125 ∷ K)) None') =
    seq (two _ _) atomic (seq (zero_ _ _) atomic (seq (opt (two _ _)) atomic (seq (opt (last _ _)) atomic (seq none atomic none)))) in (
      p + 1 + 1 + 1 + 1 + 1 + 1 + 1 + 1,
      call is.escape refl (seq str atomic
          (right (right (right (right (right (right (right (right str str) str) str) str) str) str) (call is.code refl (seq_first (seq_first str))))
          (call is.unicode refl (seq (seq (seq str atomic (call is.opening_brace refl str)) atomic (rep_min_max copies)) atomic (call is.closing_brace refl str))))),
    ))
    (λ K. refl)

paragraph_form : (q : ℕ) → CharacterForm q 0x2029 (codes "\\u{2029}")
unfolding whitespace comment
paragraph_form q = by_escape (117 ∷ 123 ∷ 50 ∷ 48 ∷ 50 ∷ 57 ∷ 125 ∷ []) refl
    (λ K p.
    let none = opt_none (brace_fails K (p + 1 + 1 + 1 + 1 + 1 + 1 + 1)) in
    let two : (L : Text) (k : ℕ) → Gives (Run AtomicMode (rule is.hex_digit)) (at k (50 ∷ L)) (Success (at (k + 1) L) None') = λ L k. call is.hex_digit refl (left (left range)) in
    let zero_ : (L : Text) (k : ℕ) → Gives (Run AtomicMode (rule is.hex_digit)) (at k (48 ∷ L)) (Success (at (k + 1) L) None') = λ L k. call is.hex_digit refl (left (left range)) in
    let last : (L : Text) (k : ℕ) → Gives (Run AtomicMode (rule is.hex_digit)) (at k (57 ∷ L)) (Success (at (k + 1) L) None') = λ L k. call is.hex_digit refl (left (left range)) in
    let copies : Gives (Run AtomicMode (from_to (rule is.hex_digit) 2 6)) (at (p + 1 + 1 + 1) (50 ∷ 48 ∷ 50 ∷ 57 ∷ 125 ∷ K)) (Success (at (p + 1 + 1 + 1 + 1 + 1 + 1 + 1) (125 ∷ K)) None') =
    seq (two _ _) atomic (seq (zero_ _ _) atomic (seq (opt (two _ _)) atomic (seq (opt (last _ _)) atomic (seq none atomic none)))) in (
      p + 1 + 1 + 1 + 1 + 1 + 1 + 1 + 1,
      call is.escape refl (seq str atomic
          (right (right (right (right (right (right (right (right str str) str) str) str) str) str) (call is.code refl (seq_first (seq_first str))))
          (call is.unicode refl (seq (seq (seq str atomic (call is.opening_brace refl str)) atomic (rep_min_max copies)) atomic (call is.closing_brace refl str))))),
    ))
    (λ K. refl)

-- each character
module _ (q : ℕ) (delimiter : CharacterForm q q (92 ∷ q ∷ [])) where
  control_small : (c : ℕ) → is_control c ≡ true → c < 256
  control_small c h = go (nat_lt c 32) refl h
    where
      go : (b : Bool) → nat_lt c 32 ≡ b → (b || is_between 127 159 c) ≡ true → c < 256
      go true e k = let i = ltb-true c 32 e in omega (arith, i)
      go false e k = let i = leb-true c 159 (second_of_both (nat_le 127 c) (nat_le c 159) k) in omega (arith, i)

  pub form : (c : ℕ) → CharacterForm q c (escaped q c)
  form c = go (c == q) (c == 0) (c == 9) (c == 10) (c == 13) (c == 92) (is_control c) (c == 0x2028) (c == 0x2029) refl refl refl refl refl refl refl refl refl
    where
      at_number : (n : ℕ) (w : Text) → (c == n) ≡ true → CharacterForm q n w → CharacterForm q c w
      at_number n w e f = subst (λ x. CharacterForm q x w) (sym (eqb-true c n e)) f

      other : (n : ℕ) → (c == n) ≡ false → nat_eq n c ≡ false
      other n e = ne_eqb n c (λ h. let i = eq-eqb c n (sym h) in cc)

      go : (b₁ b₂ b₃ b₄ b₅ b₆ b₇ b₈ b₉ : Bool) → (c == q) ≡ b₁ → (c == 0) ≡ b₂ → (c == 9) ≡ b₃ → (c == 10) ≡ b₄ → (c == 13) ≡ b₅ → (c == 92) ≡ b₆ → is_control c ≡ b₇ → (c == 0x2028) ≡ b₈ → (c == 0x2029) ≡ b₉
          → CharacterForm q c (if b₁ then 92 ∷ c ∷ [] else if b₂ then codes "\\0" else if b₃ then codes "\\t" else if b₄ then codes "\\n" else if b₅ then codes "\\r" else if b₆ then codes "\\\\" else if b₇ then numbered c else if b₈ then codes "\\u{2028}" else if b₉ then codes "\\u{2029}" else c ∷ [])
      go true b₂ b₃ b₄ b₅ b₆ b₇ b₈ b₉ e₁ e₂ e₃ e₄ e₅ e₆ e₇ e₈ e₉ = let h = eqb-true c q e₁ in subst (λ x. CharacterForm q x (92 ∷ x ∷ [])) (sym h) delimiter
      go false true b₃ b₄ b₅ b₆ b₇ b₈ b₉ e₁ e₂ e₃ e₄ e₅ e₆ e₇ e₈ e₉ = at_number 0 _ e₂ (null_form q)
      go false false true b₄ b₅ b₆ b₇ b₈ b₉ e₁ e₂ e₃ e₄ e₅ e₆ e₇ e₈ e₉ = at_number 9 _ e₃ (tab_form q)
      go false false false true b₅ b₆ b₇ b₈ b₉ e₁ e₂ e₃ e₄ e₅ e₆ e₇ e₈ e₉ = at_number 10 _ e₄ (feed_form q)
      go false false false false true b₆ b₇ b₈ b₉ e₁ e₂ e₃ e₄ e₅ e₆ e₇ e₈ e₉ = at_number 13 _ e₅ (return_form q)
      go false false false false false true b₇ b₈ b₉ e₁ e₂ e₃ e₄ e₅ e₆ e₇ e₈ e₉ = at_number 92 _ e₆ (backslash_form q)
      go false false false false false false true b₈ b₉ e₁ e₂ e₃ e₄ e₅ e₆ e₇ e₈ e₉ = control_form q c (control_small c e₇)
      go false false false false false false false true b₉ e₁ e₂ e₃ e₄ e₅ e₆ e₇ e₈ e₉ = at_number 0x2028 _ e₈ (separator_form q)
      go false false false false false false false false true e₁ e₂ e₃ e₄ e₅ e₆ e₇ e₈ e₉ = at_number 0x2029 _ e₉ (paragraph_form q)
      go false false false false false false false false false e₁ e₂ e₃ e₄ e₅ e₆ e₇ e₈ e₉ = as_itself refl (other q e₁) (other 92 e₆)

pub form_in_double : (c : ℕ) → CharacterForm 34 c (escaped 34 c)
form_in_double = form 34 (quote_form 34)

pub form_in_single : (c : ℕ) → CharacterForm 39 c (escaped 39 c)
form_in_single = form 39 (single_form 39)
