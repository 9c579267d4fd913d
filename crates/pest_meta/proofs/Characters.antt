-- Single characters: what differs from what, and what takes one.
use Rattle.std.proofs.Common.{◌≡◌, refl, ap, subst, ℕ, ◌+◌, List, [], ◌∷◌, Bool, true, false, ◌||◌, ◌&&◌, nat_eq, if◌then◌else◌, codes, eqb-true, length}
use Rattle.base_language.specs.Language.Text.{Text, size_of}
use Rattle.base_language.specs.Language.Expression.{Str, Range, whitespace, comment}
use Rattle.base_language.specs.Language.Matching.{begins}
use Rattle.base_language.specs.Language.State.{moved, Mode, AtomicMode, None', Success, Failure}
use Rattle.base_language.specs.Language.Builtins.{is_between, is_letter, is_lower, is_upper}
use Rattle.base_language.specs.Language.Meaning.{Run}
use Rattle.base_language.specs.declared.grammar.Rule.TheVariants as is
use Rattle.base_language.proofs.Basics.{first_of_neither, second_of_neither}
use Rattle.front_grammar.proofs.FirstCharacters.{is_among}
use Rattle.front_grammar.specs.MetaGrammar.{rule, ◌or◌}
use Rattle.pest_meta.proofs.Deriving.{at, Gives, str, range, call, left, right, is_solid}

-- what one test accepts is none of what it refuses
pub differs : (good : ℕ → Bool) (x c : ℕ) → good x ≡ false → good c ≡ true → nat_eq x c ≡ false
differs good x c h k = go (nat_eq x c) refl
  where
    go : (b : Bool) → nat_eq x c ≡ b → b ≡ false
    go true e = let i = ap good (eqb-true x c e) in cc
    go false e = refl

abbrev pub any_good : (ℕ → Bool) → List ℕ → Bool
any_good good [] = false
any_good good (x ∷ xs) = good x || any_good good xs

pub excluded : (good : ℕ → Bool) (xs : List ℕ) (c : ℕ) → any_good good xs ≡ false → good c ≡ true → is_among xs c ≡ false
excluded good [] c h k = refl
excluded good (x ∷ xs) c h k = go (nat_eq c x) refl (excluded good xs c (second_of_neither _ _ h) k)
  where
    go : (b : Bool) → nat_eq c x ≡ b → is_among xs c ≡ false → (b || is_among xs c) ≡ false
    go true e l = let i = ap good (eqb-true c x e) in let j : good x ≡ false = first_of_neither (good x) (any_good good xs) h in cc
    go false e l = l

pub solid_when : (good : ℕ → Bool) (c : ℕ) → any_good good (32 ∷ 9 ∷ 10 ∷ 13 ∷ []) ≡ false → any_good good (47 ∷ []) ≡ false → good c ≡ true → is_solid c ≡ true
solid_when good c h i k = let a = excluded good (32 ∷ 9 ∷ 10 ∷ 13 ∷ []) c h k in let b = excluded good (47 ∷ []) c i k in rw (a, b) refl

-- what a test accepts, another refuses, if these characters are all that the first accepts
pub refused : (bad : ℕ → Bool) (xs : List ℕ) (c : ℕ) → any_good bad xs ≡ false → is_among xs c ≡ true → bad c ≡ false
refused bad xs c h k = go (bad c) refl
  where
    go : (b : Bool) → bad c ≡ b → b ≡ false
    go true e = let i = excluded bad xs c h e in cc
    go false e = refl

-- one character further
abbrev pub past : ℕ → ℕ → ℕ
past p c = p + size_of (c ∷ [])

pub range_takes : {m : Mode} (a z c : ℕ) (K : Text) (p : ℕ) → is_between a z c ≡ true → Gives (Run m (Range (a ∷ []) (z ∷ []))) (at p (c ∷ K)) (Success (at (past p c) K) None')
range_takes {m} a z c K p h = subst (λ b. Gives (Run m (Range (a ∷ []) (z ∷ []))) (at p (c ∷ K)) (if b then Success (at (past p c) K) None' else Failure)) h range

pub range_misses : {m : Mode} (a z c : ℕ) (K : Text) (p : ℕ) → is_between a z c ≡ false → Gives (Run m (Range (a ∷ []) (z ∷ []))) (at p (c ∷ K)) Failure
range_misses {m} a z c K p h = subst (λ b. Gives (Run m (Range (a ∷ []) (z ∷ []))) (at p (c ∷ K)) (if b then Success (at (past p c) K) None' else Failure)) h range

pub sign_takes : {m : Mode} (x c : ℕ) (K : Text) (p : ℕ) → nat_eq x c ≡ true → Gives (Run m (Str (x ∷ []))) (at p (c ∷ K)) (Success (at (past p c) K) None')
sign_takes {m} x c K p h = subst (λ b. Gives (Run m (Str (x ∷ []))) (at p (c ∷ K)) (if b && true then Success (at (past p c) K) None' else Failure)) h str

pub sign_misses : {m : Mode} (x : ℕ) (t : Text) (c : ℕ) (K : Text) (p : ℕ) → nat_eq x c ≡ false → Gives (Run m (Str (x ∷ t))) (at p (c ∷ K)) Failure
sign_misses {m} x t c K p h = subst (λ b. Gives (Run m (Str (x ∷ t))) (at p (c ∷ K)) (if b && begins nat_eq t K then Success (moved (length (x ∷ t)) (at p (c ∷ K))) None' else Failure)) h str

-- a text that stands there, or does not
pub text_misses : {m : Mode} (t u : Text) (p : ℕ) → begins nat_eq t u ≡ false → Gives (Run m (Str t)) (at p u) Failure
text_misses {m} t u p h = subst (λ b. Gives (Run m (Str t)) (at p u) (if b then Success (moved (length t) (at p u)) None' else Failure)) h str

-- letters
module _ (c : ℕ) (K : Text) (p : ℕ) where
  pub letter_takes : is_letter c ≡ true → Gives (Run AtomicMode (rule is.alpha)) (at p (c ∷ K)) (Success (at (past p c) K) None')
  unfolding whitespace comment
  letter_takes h = go (is_lower c) (is_upper c) refl refl h
    where
      go : (a b : Bool) → is_lower c ≡ a → is_upper c ≡ b → (b || a) ≡ true → Gives (Run AtomicMode (rule is.alpha)) (at p (c ∷ K)) (Success (at (past p c) K) None')
      go true b e f k = call is.alpha refl (left (range_takes 97 122 c K p e))
      go false true e f k = call is.alpha refl (right (range_misses 97 122 c K p e) (range_takes 65 90 c K p f))
      go false false e f k = cc

  pub letter_misses : is_letter c ≡ false → Gives (Run AtomicMode (rule is.alpha)) (at p (c ∷ K)) Failure
  unfolding whitespace comment
  letter_misses h = call is.alpha refl (right (range_misses 97 122 c K p (second_of_neither _ _ h)) (range_misses 65 90 c K p (first_of_neither _ _ h)))

  pub letter_or_digit_takes : (is_letter c || is_between 48 57 c) ≡ true → Gives (Run AtomicMode (rule is.alpha_num)) (at p (c ∷ K)) (Success (at (past p c) K) None')
  unfolding whitespace comment
  letter_or_digit_takes h = go (is_letter c) refl h
    where
      go : (a : Bool) → is_letter c ≡ a → (a || is_between 48 57 c) ≡ true → Gives (Run AtomicMode (rule is.alpha_num)) (at p (c ∷ K)) (Success (at (past p c) K) None')
      go true e k = call is.alpha_num refl (left (letter_takes e))
      go false e k = call is.alpha_num refl (right (letter_misses e) (range_takes 48 57 c K p k))

  pub letter_or_digit_misses : (is_letter c || is_between 48 57 c) ≡ false → Gives (Run AtomicMode (rule is.alpha_num)) (at p (c ∷ K)) Failure
  unfolding whitespace comment
  letter_or_digit_misses h = call is.alpha_num refl (right (letter_misses (first_of_neither _ _ h)) (range_misses 48 57 c K p (second_of_neither _ _ h)))

  -- `_` or else
  pub word_takes : (nat_eq 95 c || (is_letter c || is_between 48 57 c)) ≡ true → Gives (Run AtomicMode (Str (codes "_") or rule is.alpha_num)) (at p (c ∷ K)) (Success (at (past p c) K) None')
  word_takes h = go (nat_eq 95 c) refl h
    where
      go : (a : Bool) → nat_eq 95 c ≡ a → (a || (is_letter c || is_between 48 57 c)) ≡ true → Gives (Run AtomicMode (Str (codes "_") or rule is.alpha_num)) (at p (c ∷ K)) (Success (at (past p c) K) None')
      go true e k = left (sign_takes 95 c K p e)
      go false e k = right (sign_misses 95 [] c K p e) (letter_or_digit_takes k)

  pub word_misses : (nat_eq 95 c || (is_letter c || is_between 48 57 c)) ≡ false → Gives (Run AtomicMode (Str (codes "_") or rule is.alpha_num)) (at p (c ∷ K)) Failure
  word_misses h = right (sign_misses 95 [] c K p (first_of_neither _ _ h)) (letter_or_digit_misses (second_of_neither _ _ h))

  pub start_misses : (nat_eq 95 c || is_letter c) ≡ false → Gives (Run AtomicMode (Str (codes "_") or rule is.alpha)) (at p (c ∷ K)) Failure
  start_misses h = right (sign_misses 95 [] c K p (first_of_neither _ _ h)) (letter_misses (second_of_neither _ _ h))

  pub start_takes : (nat_eq 95 c || is_letter c) ≡ true → Gives (Run AtomicMode (Str (codes "_") or rule is.alpha)) (at p (c ∷ K)) (Success (at (past p c) K) None')
  start_takes h = go (nat_eq 95 c) refl h
    where
      go : (a : Bool) → nat_eq 95 c ≡ a → (a || is_letter c) ≡ true → Gives (Run AtomicMode (Str (codes "_") or rule is.alpha)) (at p (c ∷ K)) (Success (at (past p c) K) None')
      go true e k = left (sign_takes 95 c K p e)
      go false e k = right (sign_misses 95 [] c K p e) (letter_takes k)
