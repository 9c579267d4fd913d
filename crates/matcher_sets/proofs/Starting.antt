-- The first characters of texts.
use Rattle.std.proofs.Common.{◌≡◌, refl, sym, ◌∙◌, ap, ap₂, ℕ, zero, suc, ◌+◌, ◌<◌, List, [], ◌∷◌, ◌++◌, Bool, true, false, ◌||◌, arith, get_or, length, map, nat_eq, take}
use Rattle.std.proofs.Math.Seq.{take-suc}
use Rattle.std.proofs.lemmas.Bool.{and_parts}
use Rattle.std.proofs.lemmas.List.{map-append}
use Rattle.std.specs.declared.string.String.{String}
use Rattle.std.specs.declared.alloc.Global.{Global}
use Rattle.base_ast.specs.Ast as ast
use Rattle.base_language.specs.Language.Builtins.{is_between}
use Rattle.base_language.specs.Language.Matching.{any_begins, begins, starts_in}
use Rattle.base_language.specs.Language.Text.{Text}
use Rattle.matcher_code.specs.Lists.{is_covered}
use Rattle.matcher_code.specs.Laid.{StartIn}
use Rattle.matcher_sets.specs.Ranges.{Adds}
use Rattle.matcher_sets.proofs.Ranging.{between_same}
use Rattle.matcher_sets.proofs.Searching.{any-append, or_none}

-- one text more of those that were taken
pub taken : (texts : List (String Global)) (i : ℕ) (t : String Global) → i < length texts → get_or texts i t ≡ t
    → map ast.text_of (take (i + 1) texts) ≡ map ast.text_of (take i texts) ++ ast.text_of t ∷ []
taken texts i t l here =
    let e : i + 1 ≡ suc i = omega arith in
    ap (λ k. map ast.text_of (take k texts)) e
    ∙ (ap (map ast.text_of) (take-suc texts i t l ∙ ap (λ x. take i texts ++ x ∷ []) here) ∙ map-append ast.text_of (take i texts) (t ∷ []))

pub none_start : (ranges : List (ℕ × ℕ)) → StartIn ranges []
none_start ranges = record { none_empty = refl; covered = λ c u l h. cc }

pub same_self : (c : ℕ) → nat_eq c c ≡ true
same_self c = grind arith

is_not_empty : (t : Text) (c : ℕ) → ((d : ℕ) → starts_in (λ e. nat_eq e d) t ≡ nat_eq c d) → begins nat_eq t [] ≡ false
is_not_empty [] c h = let z : false ≡ true = h c ∙ same_self c in cc
is_not_empty (x ∷ t) c h = refl

first_set_is : (t : Text) (c d : ℕ) (u : Text) → ((e : ℕ) → starts_in (λ x. nat_eq x e) t ≡ nat_eq c e) → begins nat_eq t (d ∷ u) ≡ true → nat_eq c d ≡ true
first_set_is [] c d u h b = let z : false ≡ true = h c ∙ same_self c in cc
first_set_is (x ∷ t) c d u h b = sym (h d) ∙ (and_parts (nat_eq x d) (begins nat_eq t u) b).0

or_cases : (a b : Bool) → (a || b) ≡ true → (a ≡ false → b ≡ true)
or_cases true b h e = cc
or_cases false b h e = h

-- one text more
pub more_starts : (texts : List (String Global)) (i : ℕ) (t : String Global) (old new : List (ℕ × ℕ)) (c : ℕ) → i < length texts → get_or texts i t ≡ t
    → StartIn old (map ast.text_of (take i texts)) → ((d : ℕ) → starts_in (λ e. nat_eq e d) (ast.text_of t) ≡ nat_eq c d)
    → Adds old new (is_between c c) → StartIn new (map ast.text_of (take (i + 1) texts))
more_starts texts i t old new c l here h first adds =
    let ts = map ast.text_of (take i texts) in
    let x = ast.text_of t in
    let more : (v : Text) → any_begins (map ast.text_of (take (i + 1) texts)) v ≡ (any_begins ts v || begins nat_eq x v) =
    λ v. ap (λ ys. any_begins ys v) (taken texts i t l here) ∙ (any-append ts (x ∷ []) v ∙ ap (λ b. any_begins ts v || b) (or_none (begins nat_eq x v))) in
    record {
      none_empty = more [] ∙ ap₂ (λ a b. a || b) h.none_empty (is_not_empty x c first);
      covered = λ d u k e. go d u k (any_begins ts (d ∷ u)) refl (sym (more (d ∷ u)) ∙ e);
    }
  where
    go : (d : ℕ) (u : Text) → d < 1114112 → (b : Bool) → any_begins (map ast.text_of (take i texts)) (d ∷ u) ≡ b
        → (any_begins (map ast.text_of (take i texts)) (d ∷ u) || begins nat_eq (ast.text_of t) (d ∷ u)) ≡ true → is_covered new d ≡ true
    go d u k true e f = adds d k ∙ ap (λ b. b || is_between c c d) (h.covered d u k e)
    go d u k false e f =
        let z = or_cases (any_begins (map ast.text_of (take i texts)) (d ∷ u)) (begins nat_eq (ast.text_of t) (d ∷ u)) f e in
        let y = first_set_is (ast.text_of t) c d u first z in
        adds d k ∙ (ap (λ b. is_covered old d || b) (between_same c d ∙ y) ∙ or_true (is_covered old d))
      where
        or_true : (b : Bool) → (b || true) ≡ true
        or_true true = refl
        or_true false = refl

-- a text without a first character is empty, and each input begins with it
none_first : (t : Text) → ((d : ℕ) → starts_in (λ e. nat_eq e d) t ≡ false) → begins nat_eq t [] ≡ true
none_first [] h = refl
none_first (x ∷ t) h = let z : true ≡ false = sym (same_self x) ∙ h x in cc

pub some_empty : (texts : List (String Global)) (i : ℕ) (t : String Global) → i < length texts → get_or texts i t ≡ t
    → ((d : ℕ) → starts_in (λ e. nat_eq e d) (ast.text_of t) ≡ false) → any_begins (map ast.text_of texts) [] ≡ true
some_empty [] i t l here h = absurd (omega (arith, l))
some_empty (s ∷ texts) zero t l here h =
    ap (λ x. begins nat_eq (ast.text_of x) [] || any_begins (map ast.text_of texts) []) here
    ∙ ap (λ b. b || any_begins (map ast.text_of texts) []) (none_first (ast.text_of t) h)
some_empty (s ∷ texts) (suc i) t l here h =
    ap (λ b. begins nat_eq (ast.text_of s) [] || b) (some_empty texts i t (omega (arith, l)) here h) ∙ or_true (begins nat_eq (ast.text_of s) [])
  where
    or_true : (b : Bool) → (b || true) ≡ true
    or_true true = refl
    or_true false = refl
