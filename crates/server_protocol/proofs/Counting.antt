-- Positions are counted upwards.
use Rattle.std.proofs.Common.{◌≡◌, ◌<◌, ◌≤◌, ◌+◌, ◌*◌, ◌-◌, ◌⊎◌, ℕ, zero, suc, List, true, false, cond, refl, ap, subst, inl, inr, ⊎_elim, length, get_or, arith, add-one, add-zero, add-suc}
use Rattle.std.specs.Str.{IsCharBoundary}
use Rattle.std.proofs.lemmas.Bool.{cases_lt}
use Rattle.std.proofs.lemmas.List.{get_or_past}
use Rattle.server_protocol.specs.Positions.{IsAtMost, IsOffset, IsPlace, after_byte, ends_line, position_at, units}
use Rattle.server_protocol.specs.declared.positions.Encoding.{Encoding}
use Rattle.server_protocol.specs.declared.positions.Encoding.TheVariants.{Utf8, Utf16}
use Rattle.server_protocol.specs.declared.positions.Position.{Position}

pub step : (e : Encoding) (text : List ℕ) (k : ℕ) → position_at e text (k + 1) ≡ after_byte e text k (position_at e text k)
step e text k = ap (position_at e text) (add-one k)

pub units_few : (e : Encoding) (byte : ℕ) → units e byte ≤ 2
units_few Utf8 byte = omega arith
units_few Utf16 byte = grind arith

line_after : (e : Encoding) (text : List ℕ) (k : ℕ) (p : Position) → (after_byte e text k p).line ≤ p.line + 1
line_after e text k p = elim (ends_line text k) as (λ b. (let q : Position = cond b (record { line = p.line + 1; character = 0 }) (record { line = p.line; character = p.character + units e (get_or text k 0) }) in q.line) ≤ p.line + 1) [ true ↦ omega arith | false ↦ omega arith ]

character_after : (e : Encoding) (text : List ℕ) (k : ℕ) (p : Position) → (after_byte e text k p).character ≤ p.character + 2
character_after e text k p = let few : units e (get_or text k 0) ≤ 2 = units_few e (get_or text k 0) in elim (ends_line text k) as (λ b. (let q : Position = cond b (record { line = p.line + 1; character = 0 }) (record { line = p.line; character = p.character + units e (get_or text k 0) }) in q.character) ≤ p.character + 2) [ true ↦ omega arith | false ↦ omega arith ]

pub line_bound : (e : Encoding) (text : List ℕ) (k : ℕ) → (position_at e text k).line ≤ k
line_bound e text zero = omega arith
line_bound e text (suc k) = omega (arith, line_after e text k (position_at e text k), line_bound e text k)

pub character_bound : (e : Encoding) (text : List ℕ) (k : ℕ) → (position_at e text k).character ≤ 2 * k
character_bound e text zero = omega arith
character_bound e text (suc k) = omega (arith, character_after e text k (position_at e text k), character_bound e text k)

start_cases : (l c : ℕ) → (0 < l) ⊎ ((0 ≡ l) × (0 ≤ c))
start_cases zero c = inr (refl, omega arith)
start_cases (suc l) c = inl (omega arith)

pub start_at_most : (e : Encoding) (text : List ℕ) (p : Position) → IsAtMost (position_at e text 0) p
start_at_most e text p = start_cases p.line p.character

-- the last place before a bound whose position is at most as far as another one
pub record IsLastBefore (e : Encoding) (text : List ℕ) (p : Position) (bound offset : ℕ) : Type 0 where
  pub place : IsPlace text offset
  pub reached : IsAtMost (position_at e text offset) p
  pub last : (k : ℕ) → k < bound → IsPlace text k → IsAtMost (position_at e text k) p → k ≤ offset

pub first_place : (text : List ℕ) → IsCharBoundary text 0 → IsPlace text 0
first_place text b = (b, λ e f. omega arith)

no_feed : {n : ℕ} → n ≡ 0 → n ≡ 10 → ⊥
no_feed e f = omega arith

pub last_place : (text : List ℕ) → IsPlace text (length text)
last_place text = ((omega arith, λ h. omega arith), λ e. absurd (no_feed (get_or_past text (length text) 0 (omega arith)) e))

pub begin_search : (e : Encoding) (text : List ℕ) (p : Position) → IsCharBoundary text 0 → IsLastBefore e text p 0 0
begin_search e text p b = record { place = first_place text b; reached = start_at_most e text p; last = λ k h. absurd (omega arith) }

pub take_place : (e : Encoding) (text : List ℕ) (p : Position) (k : ℕ) → IsPlace text k → IsAtMost (position_at e text k) p → IsLastBefore e text p (k + 1) k
take_place e text p k h i = record { place = h; reached = i; last = λ j l _ _. omega arith }

below_or_same : {j k : ℕ} → j < k + 1 → (j < k) ⊎ (j ≡ k)
below_or_same {j} {k} l = ⊎_elim (λ below. inl below) (λ above. inr (omega arith)) (cases_lt j k)

pub pass_place : (e : Encoding) (text : List ℕ) (p : Position) (k last : ℕ) → IsLastBefore e text p k last → (IsPlace text k → IsAtMost (position_at e text k) p → ⊥) → IsLastBefore e text p (k + 1) last
pass_place e text p k last s n = record {
  place = s.place;
  reached = s.reached;
  last = λ j l h i. ⊎_elim (λ below. s.last j below h i) (λ same. absurd (n (subst (IsPlace text) same h) (subst (λ m. IsAtMost (position_at e text m) p) same i))) (below_or_same l);
}

pub end_search : (e : Encoding) (text : List ℕ) (p : Position) (last : ℕ) → IsLastBefore e text p (length text + 1) last → IsOffset e text p last
end_search e text p last s = record { place = s.place; reached = s.reached; last = λ k h i. s.last k (omega (arith, h.0.0)) h i }

pub end_taken : (e : Encoding) (text : List ℕ) (p : Position) → IsAtMost (position_at e text (length text)) p → IsOffset e text p (length text)
end_taken e text p h = end_search e text p (length text) (take_place e text p (length text) (last_place text) h)

pub end_passed : (e : Encoding) (text : List ℕ) (p : Position) (last : ℕ) → IsLastBefore e text p (length text) last → (IsAtMost (position_at e text (length text)) p → ⊥) → IsOffset e text p last
end_passed e text p last s n = end_search e text p last (pass_place e text p (length text) last s (λ _. n))

-- for the laws

pub one_offset_lem : (e : Encoding) (text : List ℕ) (p : Position) (a b : ℕ) → IsOffset e text p a → IsOffset e text p b → a ≡ b
one_offset_lem e text p a b h i = omega (arith, h.last b i.place i.reached, i.last a h.place h.reached)

-- one position is before another one
abbrev IsBefore : Position → Position → Type 0
IsBefore p q = (p.line < q.line) ⊎ ((p.line ≡ q.line) × (p.character < q.character))

at_most_self : (p : Position) → IsAtMost p p
at_most_self p = inr (refl, omega arith)

units_of_character : (e : Encoding) (byte : ℕ) → (128 ≤ byte → 192 ≤ byte) → 0 < units e byte
units_of_character Utf8 byte h = omega arith
units_of_character Utf16 byte h = grind arith

after_is_further : (e : Encoding) (text : List ℕ) (k : ℕ) (p : Position) → IsAtMost p (after_byte e text k p)
after_is_further e text k p = elim (ends_line text k) as (λ b. IsAtMost p (cond b (record { line = p.line + 1; character = 0 }) (record { line = p.line; character = p.character + units e (get_or text k 0) }))) [ true ↦ inl (omega arith) | false ↦ inr (refl, omega arith) ]

after_is_later : (e : Encoding) (text : List ℕ) (k : ℕ) (p : Position) → 0 < units e (get_or text k 0) → IsBefore p (after_byte e text k p)
after_is_later e text k p u = elim (ends_line text k) as (λ b. IsBefore p (cond b (record { line = p.line + 1; character = 0 }) (record { line = p.line; character = p.character + units e (get_or text k 0) }))) [ true ↦ inl (omega arith) | false ↦ inr (refl, omega arith) ]

at_most_trans : (p q r : Position) → IsAtMost p q → IsAtMost q r → IsAtMost p r
at_most_trans p q r h i = grind arith

before_trans : (p q r : Position) → IsBefore p q → IsAtMost q r → IsBefore p r
before_trans p q r h i = grind arith

before_not_at_most : (p q : Position) → IsBefore p q → IsAtMost q p → ⊥
before_not_at_most p q h i = grind arith

ascending : (e : Encoding) (text : List ℕ) (k d : ℕ) → IsAtMost (position_at e text k) (position_at e text (k + d))
ascending e text k zero = rw add-zero (at_most_self (position_at e text k))
ascending e text k (suc d) = rw add-suc (at_most_trans _ _ _ (ascending e text k d) (after_is_further e text (k + d) (position_at e text (k + d))))

line_not_past : (q p : Position) → p.line < q.line → IsAtMost q p → ⊥
line_not_past q p below h = grind arith

-- behind a line that lies past a position, no place is at most as far
pub end_early : (e : Encoding) (text : List ℕ) (p : Position) (k last : ℕ) → IsLastBefore e text p k last → p.line < (position_at e text k).line → IsOffset e text p last
end_early e text p k last s below = record {
  place = s.place;
  reached = s.reached;
  last = λ j h i. ⊎_elim (λ before. s.last j before h i) (λ behind. absurd (past j i behind)) (cases_lt j k);
}
  where
    past : (j : ℕ) → IsAtMost (position_at e text j) p → k ≤ j → ⊥
    past j i behind =
        let same : k + (j - k) ≡ j = omega arith in
        let up : IsAtMost (position_at e text k) (position_at e text j) = subst (λ n. IsAtMost (position_at e text k) (position_at e text n)) same (ascending e text k (j - k)) in
        line_not_past (position_at e text k) p below (at_most_trans (position_at e text k) (position_at e text j) p up i)

pub later : (e : Encoding) (text : List ℕ) (k j : ℕ) → IsPlace text k → k < length text → k < j → IsBefore (position_at e text k) (position_at e text j)
later e text k j h l m =
    let first = after_is_later e text k (position_at e text k) (units_of_character e (get_or text k 0) (h.0.1 l)) in
    let same : suc k + (j - suc k) ≡ j = omega arith in
    before_trans _ (position_at e text (suc k)) _ first (subst (λ n. IsAtMost (position_at e text (suc k)) (position_at e text n)) same (ascending e text (suc k) (j - suc k)))

pub exact_lem : (e : Encoding) (text : List ℕ) (k : ℕ) → IsPlace text k → IsOffset e text (position_at e text k) k
exact_lem e text k h = record {
  place = h;
  reached = at_most_self (position_at e text k);
  last = λ j i m. ⊎_elim (λ above. absurd (before_not_at_most _ _ (later e text k j h (omega (arith, i.0.0)) above) m)) (λ le. le) (cases_lt k j);
}
