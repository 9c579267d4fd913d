-- Where left calls have no cycle, they end.
use Rattle.std.proofs.Common.{◌≡◌, ◌∙◌, ◌⊎◌, inl, inr, ℕ, zero, suc, ◌≤◌, List, [], ◌∷◌, Bool, true, false, if◌then◌else◌, Option, Some, None, refl, sym, ap, subst, length, bytes_eq, arith}
use Rattle.std.proofs.lemmas.Slice.Eq.{bytes_eq-Decides}
use Rattle.base_language.specs.Language.Text.{Text}
use Rattle.base_language.specs.Language.Expression.{Grammar, Rule, rule_of, or_else}
use Rattle.base_language.specs.Language.WellFormed.{LeftCalls, Leads, at_once, by_way}

-- left calls from n end
pub data Grounded (g : Grammar) : Text → Type 0 where
  grounded : {n : Text} → ((r : Rule) (k : Text) → rule_of g n ≡ Some r → LeftCalls g r.body k → Grounded g k) → Grounded g n

-- a place in a list, and the list without it
data In (n : Text) : List Text → Type 0 where
  first : {ns : List Text} → In n (n ∷ ns)
  next : {k : Text} {ns : List Text} → In n ns → In n (k ∷ ns)

abbrev minus : {n : Text} {ns : List Text} → In n ns → List Text
minus (first {ns = ns}) = ns
minus (next {k = k} i) = k ∷ minus i

further : {j n k : Text} {ns : List Text} → (j ≡ n) ⊎ In j ns → (j ≡ n) ⊎ In j (k ∷ ns)
further (inl e) = inl e
further (inr i) = inr (next i)

other_in : {j n : Text} {ns : List Text} → In j ns → (i : In n ns) → (j ≡ n) ⊎ In j (minus i)
other_in first first = inl refl
other_in first (next i) = inr first
other_in (next j) first = inr j
other_in (next j) (next i) = further (other_in j i)

shorter : {n : Text} {ns : List Text} (i : In n ns) → length ns ≡ suc (length (minus i))
shorter first = refl
shorter (next i) = ap suc (shorter i)

abbrev names_of : Grammar → List Text
names_of [] = []
names_of (r ∷ g) = r.name ∷ names_of g

name_in : (g : Grammar) {n : Text} {q : Rule} → rule_of g n ≡ Some q → In n (names_of g)
name_in [] h = cc
name_in (r ∷ g) {n} {q} h = go (rule_of g n) refl h (name_in g)
  where
    here : (b : Bool) → bytes_eq r.name n ≡ b → (if b then Some r else None) ≡ Some q → In n (names_of (r ∷ g))
    here true e h = subst (λ k. In n (k ∷ names_of g)) (sym ((bytes_eq-Decides r.name n).0 e)) first
    here false e h = cc

    go : (o : Option Rule) → rule_of g n ≡ o → or_else o (if bytes_eq r.name n then Some r else None) ≡ Some q → (rule_of g n ≡ Some q → In n (names_of g)) → In n (names_of (r ∷ g))
    go (Some p) e h i = next (i (e ∙ h))
    go None e h i = here (bytes_eq r.name n) refl h

module _ (g : Grammar) (no_cycle : (n : Text) → Leads g n n → ⊥) where
  abbrev Visited : List Text → Text → Type 0
  Visited ns n = (k : Text) (r : Rule) → rule_of g k ≡ Some r → In k ns ⊎ Leads g k n

  in_rest : {ns : List Text} {n : Text} → In n ns ⊎ Leads g n n → In n ns
  in_rest (inl i) = i
  in_rest (inr l) = absurd (no_cycle _ l)

  visit : {ns : List Text} {n k j : Text} (i : In n ns) → Leads g n k → In j ns ⊎ Leads g j n → In j (minus i) ⊎ Leads g j k
  visit {n = n} {k = k} {j = j} i l (inl h) = go (other_in h i)
    where
      go : (j ≡ n) ⊎ In j (minus i) → In j (minus i) ⊎ Leads g j k
      go (inl e) = inr (subst (λ x. Leads g x k) (sym e) l)
      go (inr h) = inl h
  visit i l (inr h) = inr (by_way h l)

  ground : (f : ℕ) (ns : List Text) → length ns ≤ f → (n : Text) → Visited ns n → Grounded g n
  ground zero ns b n v = grounded (λ r k e l.
      let i = in_rest (v n r e) in
      let h = shorter i in
      absurd (omega arith))
  ground (suc f) ns b n v = grounded (λ r k e l.
      let i = in_rest (v n r e) in
      let h = shorter i in
      ground f (minus i) (omega arith) k (λ j q d. visit i (at_once e l) (v j q d)))

  pub all_grounded : (n : Text) → Grounded g n
  all_grounded n = ground (length (names_of g)) (names_of g) (omega arith) n (λ k r e. inl (name_in g e))
