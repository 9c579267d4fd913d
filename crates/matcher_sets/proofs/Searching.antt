-- Searches for characters.
use Rattle.std.proofs.Common.{◌≡◌, refl, sym, ◌∙◌, ap, ap₂, ℕ, suc, ◌<◌, List, [], ◌∷◌, ◌++◌, Bool, true, false, ◌||◌, ◌==◌, arith, eqb-true, get_or, length, map, nat_eq, take}
use Rattle.std.proofs.Math.Bool.{and-true}
use Rattle.std.proofs.Math.Seq.{take-suc}
use Rattle.std.proofs.lemmas.List.{map-append}
use Rattle.std.specs.declared.string.String.{String}
use Rattle.std.specs.declared.alloc.Global.{Global}
use Rattle.base_ast.specs.Ast.{text_of}
use Rattle.base_language.specs.Language.Matching.{any_begins, begins, starts_in}
use Rattle.base_language.specs.Language.Text.{Text}

pub any-append : (ts us : List Text) (v : Text) → any_begins (ts ++ us) v ≡ (any_begins ts v || any_begins us v)
any-append [] us v = refl
any-append (t ∷ ts) us v = ap (λ b. begins nat_eq t v || b) (any-append ts us v) ∙ or_assoc (begins nat_eq t v) (any_begins ts v) (any_begins us v)
  where
    or_assoc : (a b c : Bool) → (a || (b || c)) ≡ ((a || b) || c)
    or_assoc true b c = refl
    or_assoc false b c = refl

pub or_none : (b : Bool) → (b || false) ≡ b
or_none true = refl
or_none false = refl

one_begins : (t : Text) (c : ℕ) (u : Text) → (length t == 1) ≡ true → begins nat_eq t (c ∷ u) ≡ starts_in (λ d. nat_eq d c) t
one_begins [] c u h = cc
one_begins (x ∷ y ∷ t) c u h = let z = eqb-true (length (x ∷ y ∷ t)) 1 h in absurd (omega (arith, z))
one_begins (x ∷ []) c u h = and-true (nat_eq x c)

-- one text more
pub one_text_more : (texts : List (String Global)) (i : ℕ) (t : String Global) (c : ℕ) (u : Text) (old new : Bool) → i < length texts → get_or texts i t ≡ t
    → (length (text_of t) == 1) ≡ true → any_begins (map text_of (take i texts)) (c ∷ u) ≡ old → new ≡ (old || starts_in (λ d. nat_eq d c) (text_of t))
    → any_begins (map text_of (take (suc i) texts)) (c ∷ u) ≡ new
one_text_more texts i t c u old new l here one e f =
    ap (λ ts. any_begins (map text_of ts) (c ∷ u)) (take-suc texts i t l ∙ ap (λ x. take i texts ++ x ∷ []) here)
    ∙ (ap (λ ts. any_begins ts (c ∷ u)) (map_append (take i texts) t)
    ∙ (any-append (map text_of (take i texts)) (text_of t ∷ []) (c ∷ u)
    ∙ (ap₂ (λ a b. a || b) e (or_none (begins nat_eq (text_of t) (c ∷ u)) ∙ one_begins (text_of t) c u one) ∙ sym f)))
  where
    map_append : (xs : List (String Global)) (x : String Global) → map text_of (xs ++ x ∷ []) ≡ map text_of xs ++ text_of x ∷ []
    map_append xs x = simp map-append
