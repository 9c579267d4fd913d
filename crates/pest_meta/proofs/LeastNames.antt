-- The least set of names that holds of a name if a test of its rule's body, by the set, does.
use Rattle.std.proofs.Common.{◌≡◌, refl, sym, ap, ◌∙◌, ℕ, zero, suc, ◌<◌, ◌≤◌, [], ◌∷◌, Bool, true, false, ◌||◌, if◌then◌else◌, ◌⊎◌, inl, inr, Option, Some, None, bytes_eq, arith}
use Rattle.std.specs.Prelude.{⊤}
use Rattle.std.proofs.lemmas.Bool.{or_cases, or_left, or_right}
use Rattle.std.proofs.lemmas.Slice.Eq.{bytes_eq-Decides}
use Rattle.base_language.specs.Language.Text.{Text}
use Rattle.base_language.specs.Language.Expression.{Expression, Ident, Rule, Grammar, rule_of, or_else}

module _ (g : Grammar) (test : (Text → Bool) → Expression → Bool) where
  abbrev at : (Text → Bool) → Option Rule → Bool
  at p None = false
  at p (Some r) = test p r.body

  -- the names of which a given number of rounds tell
  abbrev stage : ℕ → Text → Bool
  stage zero n = false
  stage (suc k) n = stage k n || at (stage k) (rule_of g n)

  -- how many rules have a name outside a set
  outside : (Text → Bool) → Grammar → ℕ
  outside p [] = 0
  outside p (r ∷ rs) = if p r.name then outside p rs else suc (outside p rs)

  -- the second set has no name of a rule that the first has not
  abbrev AddsNone : (Text → Bool) → (Text → Bool) → Grammar → Type 0
  AddsNone p q [] = ⊤
  AddsNone p q (r ∷ rs) = (q r.name ≡ true → p r.name ≡ true) × AddsNone p q rs

  module _ (p q : Text → Bool) (grows : (n : Text) → p n ≡ true → q n ≡ true) where
    fewer : (rs : Grammar) → outside q rs ≤ outside p rs
    unfolding outside
    fewer [] = omega arith
    fewer (r ∷ rs) = go (p r.name) (q r.name) (grows r.name) (fewer rs)
      where
        go : {m n : ℕ} (a b : Bool) → (a ≡ true → b ≡ true) → m ≤ n → (if b then m else suc m) ≤ (if a then n else suc n)
        go true true f h = h
        go true false f h = let e = f refl in cc
        go false true f h = omega arith
        go false false f h = omega arith

    fewer_or_none : (rs : Grammar) → (outside q rs < outside p rs) ⊎ AddsNone p q rs
    unfolding outside
    fewer_or_none [] = inr tt
    fewer_or_none (r ∷ rs) = go (p r.name) (q r.name) (grows r.name) (fewer rs) (fewer_or_none rs)
      where
        go : {m n : ℕ} {S : Type 0} (a b : Bool) → (a ≡ true → b ≡ true) → m ≤ n → (m < n) ⊎ S
            → ((if b then m else suc m) < (if a then n else suc n)) ⊎ ((b ≡ true → a ≡ true) × S)
        go true true f h (inl l) = inl l
        go true true f h (inr s) = inr ((λ e. refl), s)
        go true false f h s = let e = f refl in cc
        go false true f h s = inl (omega arith)
        go false false f h (inl l) = inl (omega arith)
        go false false f h (inr s) = inr ((λ e. e), s)

    none_added : (rs : Grammar) (n : Text) (r : Rule) → AddsNone p q rs → rule_of rs n ≡ Some r → q n ≡ true → p n ≡ true
    none_added [] n r s e h = cc
    none_added (x ∷ rs) n r s e h = go (rule_of rs n) (λ y i. none_added rs n y s.1 i h) refl (bytes_eq x.name n) refl e
      where
        go : (o : Option Rule) → ((y : Rule) → rule_of rs n ≡ Some y → p n ≡ true) → rule_of rs n ≡ o → (b : Bool) → bytes_eq x.name n ≡ b → or_else o (if b then Some x else None) ≡ Some r → p n ≡ true
        go (Some y) f i b j e = f y i
        go None f i true j e = let same = (bytes_eq-Decides x.name n).0 j in sym (ap p same) ∙ s.0 (ap q same ∙ h)
        go None f i false j e = cc

  -- a name is in the set if the test of its body, by the set, holds
  pub record IsClosed (p : Text → Bool) : Type 0 where
    pub closed : (n : Text) (r : Rule) → rule_of g n ≡ Some r → test p r.body ≡ true → p n ≡ true

  closed_at : (k : ℕ) → AddsNone (stage k) (stage (suc k)) g → IsClosed (stage k)
  closed_at k s = record {
    closed = λ n r e h. none_added (stage k) (stage (suc k)) (λ m i. or_left (stage k m) _ i) g n r s e (or_right (stage k n) _ (ap (at (stage k)) e ∙ h));
  }

  abbrev Closes : Type 0
  Closes = (i : ℕ) × IsClosed (stage i)

  found : (f k : ℕ) → outside (stage k) g ≤ f → Closes
  found zero k h = elim (fewer_or_none (stage k) (stage (suc k)) (λ m i. or_left (stage k m) _ i) g) [
    | inl l ↦ absurd (omega (arith, l))
    | inr s ↦ (k, closed_at k s)
  ]
  found (suc f) k h = elim (fewer_or_none (stage k) (stage (suc k)) (λ m i. or_left (stage k m) _ i) g) [
    | inl l ↦ found f (suc k) (omega (arith, l))
    | inr s ↦ (k, closed_at k s)
  ]

  module _ (X : Expression → Type 0) (read : (p : Text → Bool) → ((n : Text) → p n ≡ true → X (Ident n)) → (e : Expression) → test p e ≡ true → X e)
      (call : (n : Text) (r : Rule) → rule_of g n ≡ Some r → X r.body → X (Ident n)) where
    sound : (k : ℕ) (n : Text) → stage k n ≡ true → X (Ident n)
    sound zero n h = cc
    sound (suc k) n h = go (sound k) (or_cases (stage k n) (at (stage k) (rule_of g n)) h) (rule_of g n) refl
      where
        go : ((m : Text) → stage k m ≡ true → X (Ident m)) → (stage k n ≡ true) ⊎ (at (stage k) (rule_of g n) ≡ true) → (o : Option Rule) → rule_of g n ≡ o → X (Ident n)
        go f (inl i) o e = f n i
        go f (inr i) None e = let j : at (stage k) None ≡ true = ap (at (stage k)) (sym e) ∙ i in cc
        go f (inr i) (Some r) e = call n r e (read (stage k) f r.body (ap (at (stage k)) (sym e) ∙ i))

    -- the set holds of no name but for a reason
    pub record Least : Type 0 where
      pub names : Text → Bool
      pub is_closed : IsClosed names
      pub sound : (n : Text) → names n ≡ true → X (Ident n)

    pub least : Least
    least = let f = found (outside (stage 0) g) 0 (omega arith) in record { names = stage f.0; is_closed = f.1; sound = sound f.0 }
