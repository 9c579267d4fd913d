-- Lexemes that follow each other.
use Rattle.std.proofs.Common.{◌≡◌, ◌≢◌, ℕ, ◌<◌, ◌≤◌, List, [], ◌∷◌, ◌++◌, append_assoc, arith, get_or, inl, inr, length}
use Rattle.std.proofs.lemmas.Bool.{cases_lt}
use Rattle.std.proofs.lemmas.List.{get_or_past}
use Rattle.lint_lexemes.specs.Lexemes.{AreInOrder}
use Rattle.lint_lexemes.specs.declared.lexer.Lexeme.{Lexeme}

-- a byte that is not 0 is one of the text
pub inside : (xs : List ℕ) (i b : ℕ) → b ≡ get_or xs i 0 → b ≢ 0 → i < length xs
inside xs i b e n = elim (cases_lt i (length xs)) [
  | inl less ↦ less
  | inr past ↦ absurd (n (let z = get_or_past xs i 0 past in cc))
]

-- lexemes from a byte on are from an earlier one on
pub lower : (a b : ℕ) (more : List Lexeme) (to : ℕ) → b ≤ a → AreInOrder a more to → AreInOrder b more to
lower a b [] to h o = omega (arith, h, o)
lower a b (x ∷ xs) to h o = (omega (arith, h, o.0), o.1, o.2)

-- one lexeme more
pub one_more : (next to : ℕ) (items more : List Lexeme) (x : Lexeme) → ((m : List Lexeme) → AreInOrder next m to → AreInOrder 0 (items ++ m) to) → next ≤ x.start → x.start < x.end → AreInOrder x.end more to
    → AreInOrder 0 ((items ++ x ∷ []) ++ more) to
one_more next to items more x rest from ends o = rw append_assoc (rest (x ∷ more) (from, ends, o))
