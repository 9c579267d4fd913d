-- Tokens, one after another.
use Rattle.std.proofs.Common.{◌≡◌, ◌∙◌, ◌∷◌, ◌++◌, [], ℕ, List, Option, Some, None, append-nil, ap, append_assoc, length, subst, sym, ◌<◌, arith}
use Rattle.server_symbols.specs.Lexemes.{AreTokensFrom, IsNext, is_blank, run_end, token_at}
use Rattle.server_symbols.specs.declared.tokens.Token.{Token}
use Rattle.server_symbols.specs.declared.tokens.TokenClass.{TokenClass}
use Rattle.server_symbols.proofs.Runs.{run_goes, run_over, run_stops}

-- white space before tokens
pub after_blanks : (text : List ℕ) (i j : ℕ) (tokens : List Token) → run_end is_blank text i ≡ run_end is_blank text j → AreTokensFrom text j tokens → AreTokensFrom text i tokens
after_blanks text i j [] e h = e ∙ h
after_blanks text i j (token ∷ tokens) e (s, lexeme, others) = (s ∙ sym e, lexeme, others)

-- no more tokens
pub no_more : (text : List ℕ) (i : ℕ) → i ≡ length text → AreTokensFrom text i []
no_more text i e = run_over is_blank text i (omega arith) ∙ e

-- one more token, or white space
pub lexes_next : (text : List ℕ) (class : Option TokenClass) (start end : ℕ) (tokens : List Token) → start < length text → IsNext text start class end
    → AreTokensFrom text end tokens → AreTokensFrom text start (token_at class start end ++ tokens)
lexes_next text None start end tokens l (blank, e) h =
    after_blanks text start end tokens (rw e (run_goes is_blank text start l blank)) h
lexes_next text (Some class) start end tokens l (solid, lexeme) h =
    (sym (run_stops is_blank text start l solid), lexeme, h)

module _ (text : List ℕ) (start : ℕ) (old : List Token) (go : (others : List Token) → AreTokensFrom text start others → AreTokensFrom text 0 (old ++ others)) where
  pub lexes_on : (class : Option TokenClass) (end : ℕ) (new : List Token) → new ≡ old ++ token_at class start end → start < length text → IsNext text start class end
      → (others : List Token) → AreTokensFrom text end others → AreTokensFrom text 0 (new ++ others)
  lexes_on class end new e l next others h =
      subst (AreTokensFrom text 0) (sym (ap (λ l. l ++ others) e ∙ append_assoc old (token_at class start end) others))
      (go (token_at class start end ++ others) (lexes_next text class start end others l next h))

  pub lexes_all : start ≡ length text → AreTokensFrom text 0 old
  lexes_all e = subst (AreTokensFrom text 0) (append-nil old) (go [] (no_more text start e))
