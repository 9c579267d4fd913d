-- Names of codes.
use Rattle.std.proofs.Common.{◌≡◌, ◌∙◌, ℕ, ◌+◌, ◌<◌, ◌≤◌, List, [], ◌∷◌, ◌++◌, Bool, true, false, ◌||◌, add-one, ap, arith, bytes_eq, drop, drop-cons, get_or, length, map, refl, subst, suc, sym, zero}
use Rattle.std.specs.Prelude.{◌≢◌}
use Rattle.std.specs.List.{list_any}
use Rattle.std.proofs.lemmas.Bool.{false_from_ne_true}
use Rattle.std.proofs.lemmas.List.{drop_all, get_or-map, length-map}
use Rattle.std.proofs.Math.Dec.{lit<}
use Rattle.std.proofs.Math.ListN.{get_or-map as same_at}
use Rattle.std.proofs.lemmas.Slice.Eq.{bytes_eq-Decides}
use Rattle.lint_findings.specs.Codes.{IsUnknown, all_codes, has_name, pest}
use Rattle.lint_findings.specs.contracts.codes.Code.{the_type}
use Rattle.lint_findings.specs.declared.codes.Code.{Code}
use Rattle.lint_findings.specs.declared.codes.Code.TheVariants as code
use Rattle.lint_findings.specs.declared.facts.Facts.{Facts}
use denote.Enum.Declared.{tag_of}

-- the rest of a name after `pest::`, and a name without it
pub short_name : (full rest name : List ℕ) → full ≡ pest ++ rest → bytes_eq rest name ≡ bytes_eq full (pest ++ name)
short_name full rest name e = sym (ap (λ f. bytes_eq f (pest ++ name)) e)

pub no_short_name : (full name : List ℕ) → ((rest : List ℕ) → full ≢ pest ++ rest) → false ≡ bytes_eq full (pest ++ name)
no_short_name full name n = sym (false_from_ne_true (bytes_eq full (pest ++ name)) (λ h. n name ((bytes_eq-Decides full (pest ++ name)).0 h)))

-- an item that fails a test, and the end
pub next_fails : {A : Type 0} (f : A → Bool) (xs : List A) (i : ℕ) (d : A) → i < length xs → f (get_or xs i d) ≡ false → list_any f (drop i xs) ≡ list_any f (drop (i + 1) xs)
next_fails f xs i d l h = ap (list_any f) (drop-cons xs i d l) ∙ (ap (λ b. b || list_any f (drop (suc i) xs)) h ∙ rw add-one refl)

pub none_left : {A : Type 0} (f : A → Bool) (xs : List A) (i : ℕ) → length xs ≤ i → list_any f (drop i xs) ≡ false
none_left f xs i l = ap (list_any f) (drop_all i xs l)

left_false : (a b : Bool) → (a || b) ≡ false → a ≡ false
left_false true b h = h
left_false false b h = refl

right_false : (a b : Bool) → (a || b) ≡ false → b ≡ false
right_false true b h = cc
right_false false b h = h

-- each code stands in the list of all, at the number of its tag
within : (c : Code) → tag_of the_type c < length all_codes
within code.Syntax = lit< tt
within _ = lit< tt

stands : (c : Code) → get_or all_codes (tag_of the_type c) c ≡ c
stands code.Syntax = refl
stands _ = refl

-- what the table of codes has at that number
pub in_table : {A : Type 0} (f : Facts → A) (g : Code → A) (table : List Facts) (d : Facts) (c : Code) → map f table ≡ map g all_codes → f (get_or table (tag_of the_type c) d) ≡ g c
in_table f g table d c e =
    let n = tag_of the_type c in
    sym (same_at f table n d)
    ∙ (ap (λ xs. get_or xs n (f d)) e
    ∙ (get_or-map g all_codes n c (f d) (within c) ∙ ap g (stands c)))

pub in_range : (table : List Facts) (c : Code) → map (λ facts. facts.code) table ≡ all_codes → tag_of the_type c < length table
in_range table c e =
    let n : length table ≡ length all_codes = sym (length-map table (λ facts. facts.code)) ∙ ap length e in
    subst (λ m. tag_of the_type c < m) (sym n) (within c)

-- a test that fails at each of a list
each_fails : {A : Type 0} (f : A → Bool) (xs : List A) (i : ℕ) (d : A) → i < length xs → list_any f xs ≡ false → f (get_or xs i d) ≡ false
each_fails f [] i d l h = absurd (omega arith)
each_fails f (x ∷ xs) zero d l h = left_false (f x) (list_any f xs) h
each_fails f (x ∷ xs) (suc i) d l h = each_fails f xs i d (omega arith) (right_false (f x) (list_any f xs) h)

any_code : (f : Code → Bool) (table : List Facts) → list_any (λ facts. f facts.code) table ≡ list_any f (map (λ facts. facts.code) table)
any_code f [] = refl
any_code f (x ∷ xs) = ap (λ b. f x.code || b) (any_code f xs)

-- a name that no code of the table has
pub unknown : (table : List Facts) (name : List ℕ) → map (λ facts. facts.code) table ≡ all_codes → list_any (λ facts. has_name facts.code name) table ≡ false → IsUnknown name
unknown table name e h c =
    let f : Code → Bool = λ k. has_name k name in
    let none : list_any f all_codes ≡ false = sym (ap (list_any f) e) ∙ (sym (any_code f table) ∙ h) in
    subst (λ k. f k ≡ false) (stands c) (each_fails f all_codes (tag_of the_type c) c (within c) none)
