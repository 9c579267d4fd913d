-- What the derived comparisons answer.
use Rattle.std.proofs.Common.{◌≡◌, ◌↔◌, ℕ, ◌+◌, ◌<◌, Bool, true, false, ◌&&◌, List, [], ◌∷◌, Some, Ordering, IsTrue, string_bytes, String, Global, Contains, slice_get, get_or, nat_eq, refl, sym, subst, ap, ◌∙◌, rules, arith, lit<, zero, suc}
use Rattle.std.proofs.lemmas.Bool.Decides.{nat_tests}
use Rattle.std.specs.declared.cmp.Ordering.TheVariants.{Less, Equal, Greater}
use Rattle.std.specs.Ordering.{nat_cmp, is_lt, ordering_reverse}
use Rattle.std.specs.Cmp.{IsTotalOrder}
use Rattle.std.proofs.lemmas.Cmp.{tied_itself}
use Rattle.std.specs.String.{string_eq}
use Rattle.std.proofs.lemmas.Bool.{and_parts}
use Rattle.base_language.specs.Rewritings.Equality.{text_eq-Decides}
use Rattle.base_language.specs.Pieces.Comparing.{ascending_rules, SaySame, SameError}
use Rattle.base_language.specs.declared.grammar.Rule.{Rule}
use Rattle.base_language.specs.declared.grammar.Rule.TheVariants.{EOI}
use Rattle.base_language.specs.declared.runtime.errors.Error.{Error}
use Rattle.base_language.specs.declared.runtime.errors.InputLocation.{InputLocation}
use Rattle.base_language.specs.declared.runtime.errors.LineColLocation.{LineColLocation}
use Rattle.base_language.specs.declared.runtime.errors.ErrorVariant.{ErrorVariant}
use Rattle.base_language.specs.declared.runtime.errors.ErrorVariant.TheVariants.{ParsingError, CustomError}
use Rattle.base_language.specs.contracts.runtime.errors.ErrorVariantPartialEq.TheImpl as variants
use Rattle.base_language.specs.contracts.runtime.errors.InputLocationPartialEq.TheImpl as locations
use Rattle.base_language.specs.contracts.runtime.errors.LineColLocationPartialEq.TheImpl as lines
use Rattle.base_language.specs.contracts.grammar.RulePartialEq.TheImpl as equality
use Rattle.base_language.specs.contracts.grammar.RuleOrd.TheImpl as order
use Rattle.base_language.specs.contracts.grammar.RuleOrd.TheImpl.Laws.{total-law}
use Rattle.base_language.specs.contracts.grammar.Rule.{the_type}
use Rattle.base_language.proofs.Basics.{same_some}
use denote.Enum.Bare.{same_true, true_same}
use denote.Enum.Declared.{tag_of}

-- strings are compared byte by byte
same_bytes : (m n : String Global) → IsTrue (string_eq m n) ↔ (string_bytes m ≡ string_bytes n)
same_bytes m n = text_eq-Decides (string_bytes m) (string_bytes n)

-- places, by cases
same_location : (a b : InputLocation) → IsTrue (locations.ghosts.eq a b) ↔ (a ≡ b)
same_location a b = search rules

same_lines : (a b : LineColLocation) → IsTrue (lines.ghosts.eq a b) ↔ (a ≡ b)
same_lines a b = search rules

-- what is wrong: by cases
pub same_variant : (a b : ErrorVariant) → IsTrue (variants.ghosts.eq a b) ↔ SaySame a b
same_variant ParsingError ParsingError = (λ h. tt, λ h. refl)
same_variant ParsingError (CustomError n) = (λ h. (cc), λ h. absurd h)
same_variant (CustomError m) ParsingError = (λ h. (cc), λ h. absurd h)
same_variant (CustomError m) (CustomError n) = same_bytes m n

all_true : (p q r s : Bool) → (p && (q && (r && (s && true)))) ≡ true → (p ≡ true) × (q ≡ true) × (r ≡ true) × (s ≡ true)
all_true true true true true h = (refl, refl, refl, refl)
all_true true true true false h = cc
all_true true true false s h = cc
all_true true false r s h = cc
all_true false q r s h = cc

true_all : (p q r s : Bool) → p ≡ true → q ≡ true → r ≡ true → s ≡ true → (p && (q && (r && (s && true)))) ≡ true
true_all p q r s hp hq hr hs = rw (hp, hq, hr, hs) refl

-- errors: field by field
pub same_error : {R : Type 0} (a b : Error R) → IsTrue (variants.ghosts.eq a.variant b.variant && (locations.ghosts.eq a.location b.location && (lines.ghosts.eq a.line_col b.line_col && (string_eq a.line.value b.line.value && true)))) ↔ SameError a b
same_error a b = (
  λ h. let (v, l, c, s) = all_true _ _ _ _ h in record {
    variant = (same_variant a.variant b.variant).0 v;
    location = (same_location a.location b.location).0 l;
    line_col = (same_lines a.line_col b.line_col).0 c;
    line = (same_bytes a.line.value b.line.value).0 s;
  },
  λ e. true_all _ _ _ _ ((same_variant a.variant b.variant).1 e.variant) ((same_location a.location b.location).1 e.location)
      ((same_lines a.line_col b.line_col).1 e.line_col) ((same_bytes a.line.value b.line.value).1 e.line),
)

-- rules: a tag tells its variant
pub one_rule : (a b : Rule) → IsTrue (equality.ghosts.eq a b) ↔ (a ≡ b)
one_rule a b = (λ h. same_true the_type tt a b h, λ e. true_same the_type a b e)

-- whether each element of a list is below the next
abbrev ascends : {K : Type 0} → (K → K → Ordering) → List K → Bool
ascends R [] = true
ascends R (x ∷ []) = true
ascends R (x ∷ y ∷ xs) = is_lt (R x y) && ascends R (y ∷ xs)

below_next : (o : Ordering) → is_lt o ≡ true → o ≡ Less
below_next Less h = refl
below_next Equal h = cc
below_next Greater h = cc

cmp_before : (j : ℕ) → nat_cmp 0 (suc j) ≡ Less
cmp_before j = grind (arith, nat_tests)

cmp_behind : (i : ℕ) → nat_cmp (suc i) 0 ≡ Greater
cmp_behind i = grind (arith, nat_tests)

cmp_within : (i j : ℕ) → nat_cmp (suc i) (suc j) ≡ nat_cmp i j
cmp_within i j = grind (arith, nat_tests)

module _ {K : Type 0} (R : K → K → Ordering) (total : IsTotalOrder R) where
  -- the first of an ascending list is below each that follows
  first_below : (x : K) (xs : List K) (j : ℕ) (b : K) → ascends R (x ∷ xs) ≡ true → slice_get xs j ≡ Some b → R x b ≡ Less
  first_below x [] j b h g = cc
  first_below x (y ∷ xs) zero b h g = subst (λ b. R x b ≡ Less) (same_some g) (below_next (R x y) (and_parts _ _ h).0)
  first_below x (y ∷ xs) (suc j) b h g = total.trans x y b (below_next (R x y) (and_parts _ _ h).0) (first_below y xs j b (and_parts _ _ h).1 g)

  rest_ascends : (x : K) (xs : List K) → ascends R (x ∷ xs) ≡ true → ascends R xs ≡ true
  rest_ascends x [] h = refl
  rest_ascends x (y ∷ xs) h = (and_parts _ _ h).1

  -- elements of an ascending list compare as their places do
  as_places : (xs : List K) (i j : ℕ) (a b : K) → ascends R xs ≡ true → slice_get xs i ≡ Some a → slice_get xs j ≡ Some b → R a b ≡ nat_cmp i j
  as_places [] i j a b h f g = cc
  as_places (x ∷ xs) zero zero a b h f g = rw (sym (same_some f), sym (same_some g)) (tied_itself total x)
  as_places (x ∷ xs) zero (suc j) a b h f g = rw (← same_some f) (first_below x xs j b h g ∙ sym (cmp_before j))
  as_places (x ∷ xs) (suc i) zero a b h f g = rw (← same_some g) (total.antisymm a x ∙ (ap ordering_reverse (first_below x xs i a h f) ∙ sym (cmp_behind i)))
  as_places (x ∷ xs) (suc i) (suc j) a b h f g = as_places xs i j a b (rest_ascends x xs h) f g ∙ sym (cmp_within i j)

pub rules_as_places : (a b : Rule) (i j : ℕ) → slice_get ascending_rules i ≡ Some a → slice_get ascending_rules j ≡ Some b → order.ghosts.cmp a b ≡ nat_cmp i j
rules_as_places a b i j f g = as_places order.ghosts.cmp total-law ascending_rules i j a b refl f g

-- each rule stands in the list, at the number of its tag
within : (r : Rule) → tag_of the_type r < 66
within EOI = lit< tt
within _ = lit< tt

stands : (r : Rule) → get_or ascending_rules (tag_of the_type r) r ≡ r
stands EOI = refl
stands _ = refl

pub all_listed : (r : Rule) → Contains ascending_rules r
all_listed r = (tag_of the_type r, within r, stands r)

-- whether the tags of a list's rules count up from a number
abbrev counts_up : ℕ → List Rule → Bool
counts_up n [] = true
counts_up n (r ∷ rs) = nat_eq (tag_of the_type r) n && counts_up (n + 1) rs

same_tag : (m n : ℕ) → nat_eq m n ≡ true → m ≡ n + 0
same_tag m n h = grind (arith, nat_tests)

tag_at : (rs : List Rule) (n i : ℕ) (a : Rule) → counts_up n rs ≡ true → slice_get rs i ≡ Some a → tag_of the_type a ≡ n + i
tag_at [] n i a h f = cc
tag_at (r ∷ rs) n zero a h f =
    subst (λ r. tag_of the_type r ≡ n + 0) (same_some f) (same_tag (tag_of the_type r) n (and_parts (nat_eq (tag_of the_type r) n) (counts_up (n + 1) rs) h).0)
tag_at (r ∷ rs) n (suc i) a h f =
    let e : tag_of the_type a ≡ (n + 1) + i = tag_at rs (n + 1) i a (and_parts (nat_eq (tag_of the_type r) n) (counts_up (n + 1) rs) h).1 f in omega (arith, e)

pub rule_at : (a : Rule) (i : ℕ) → slice_get ascending_rules i ≡ Some a → tag_of the_type a ≡ i
rule_at a i f = let e : tag_of the_type a ≡ 0 + i = tag_at ascending_rules 0 i a refl f in omega arith
