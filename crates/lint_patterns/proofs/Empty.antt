-- The empty text, by its bytes.
use Rattle.std.proofs.Common.{◌≡◌, ◌∙◌, ◌==◌, ℕ, List, [], ◌∷◌, Bool, true, false, length, refl, sym, ap, chars, eqb-true, arith}
use Rattle.std.specs.Prelude.{IsUtf8}
use Rattle.std.proofs.Math.Utf8.{encodes}
use Rattle.std.proofs.lemmas.Bool.{false_from_ne_true}
use Rattle.std.proofs.lemmas.Str.{chars-nil, encodes-chars}
use Rattle.base_language.specs.Language.Text.{Text}
use Rattle.lint_patterns.specs.Rewritten.{is_empty}

some_text : (b : ℕ) (r : List ℕ) (cs : Text) → chars (b ∷ r) ≡ cs → IsUtf8 (b ∷ r) → (length (b ∷ r) == 0) ≡ is_empty cs
some_text b r [] e u = let k = sym (encodes-chars (b ∷ r) u) ∙ ap encodes e in cc
some_text b r (c ∷ cs) e u = false_from_ne_true (length (b ∷ r) == 0) (λ k. let z = eqb-true (length (b ∷ r)) 0 k in absurd (omega arith))

pub empty_text : (bs : List ℕ) → IsUtf8 bs → (length bs == 0) ≡ is_empty (chars bs)
empty_text [] u = ap is_empty (sym chars-nil)
empty_text (b ∷ r) u = some_text b r (chars (b ∷ r)) refl u
