-- Lists of texts.
use Rattle.std.proofs.Common.{◌≡◌, refl, sym, ◌∙◌, ap, ap₂, subst, ℕ, zero, suc, ◌+◌, ◌<◌, List, [], ◌∷◌, ◌++◌, arith, chars, get_or, length, map, take}
use Rattle.std.specs.Prelude.{All, IsUtf8}
use Rattle.std.proofs.lemmas.List.{map-append}
use Rattle.std.specs.declared.string.String.{String}
use Rattle.std.specs.declared.alloc.Global.{Global}
use Rattle.base_ast.specs.Ast as ast
use Rattle.matcher_code.specs.Lists.{CodeLists}
use Rattle.matcher_code.specs.Reading.{text_of}
use Rattle.matcher_compiler.specs.Plans.{AreTexts}
use Rattle.matcher_sets.proofs.Starting.{taken}

pub no_texts : (code : CodeLists) (numbers : List ℕ) → numbers ≡ [] → AreTexts code numbers []
no_texts code numbers e = subst (λ ns. AreTexts code ns []) (sym e) (record { valid = λ k d l. absurd (omega (arith, l)); same = refl })

all_append : (xs : List (List ℕ)) (x : List ℕ) → All IsUtf8 xs → IsUtf8 x → All IsUtf8 (xs ++ x ∷ [])
all_append [] x h k zero d l = k
all_append [] x h k (suc i) d l = absurd (omega (arith, l))
all_append (y ∷ xs) x h k zero d l = h 0 d (omega arith)
all_append (y ∷ xs) x h k (suc i) d l = all_append xs x (λ j e m. h (suc j) e (omega (arith, m))) k i d (omega (arith, l))

-- one text more
pub more_texts : (code : CodeLists) (texts : List (String Global)) (i : ℕ) (t : String Global) (old new : List ℕ) (n : ℕ) → new ≡ old ++ n ∷ []
    → i < length texts → get_or texts i t ≡ t → AreTexts code old (map ast.text_of (take i texts)) → (b : List ℕ) → text_of code n ≡ b → IsUtf8 b → chars b ≡ ast.text_of t
    → AreTexts code new (map ast.text_of (take (i + 1) texts))
more_texts code texts i t old new n e l here h b is u same =
    let m : map (text_of code) new ≡ map (text_of code) old ++ text_of code n ∷ [] = ap (map (text_of code)) e ∙ map-append (text_of code) old (n ∷ []) in
    record {
      valid = subst (All IsUtf8) (sym m) (all_append (map (text_of code) old) (text_of code n) h.valid (subst IsUtf8 (sym is) u));
      same = ap (map chars) m ∙ (map-append chars (map (text_of code) old) (text_of code n ∷ [])
          ∙ (ap₂ (λ x y. x ++ y ∷ []) h.same (ap chars is ∙ same) ∙ sym (taken texts i t l here)));
    }
