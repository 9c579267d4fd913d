-- The loop search, so far.
use Rattle.std.proofs.Common.{◌≡◌, ℕ, suc, ◌-◌, List, [], ◌∷◌, ◌++◌, Option, Some, None, Bool, true, false, not, ◌⊎◌, inl, inr, ◌||◌, if◌then◌else◌, is_some, reverse, refl, sym, ◌∙◌, ap}
use Rattle.std.proofs.lemmas.List.{map_push, reverse-append}
use Rattle.front_stack_domain.specs.Stack.{AbstractStack, are_among, made_intact, marks_eq}
use Rattle.front_stack_domain.specs.Reading as says
use Rattle.front_stack_domain.specs.Reading.{loops, loops_within, lands}
use Rattle.front_stack_domain.specs.Walks.{settled}
use Rattle.front_stack_loops.specs.Table.{IsMeaning}
use Rattle.front_stack_loops.specs.Memory.{Meaning, IsRight}
use Rattle.front_stack_loops.specs.Searching.{marks_in}
use Rattle.front_stack_domain.specs.Views.{stack_of}
use Rattle.front_stack_domain.specs.declared.stack.Stack.{Stack}
use Rattle.front_stack_loops.specs.declared.table.Table.{Table}
use Rattle.front_stack_loops.specs.declared.memory.Memory.{Memory}

pub record SearchedSoFar (t : Table) (old now : Memory) (body turns done : ℕ) (first : Stack) (starts : List Stack) (start : Stack) : Type 0 where
  pub kept : (meaning : Meaning) → IsMeaning t meaning → IsRight meaning old → IsRight meaning now
  pub value : (meaning : Meaning) → IsMeaning t meaning → IsRight meaning old
      → loops_within (meaning body) (turns - done) (reverse (marks_in starts)) (stack_of start) ≡ loops turns (meaning body) (stack_of first)

-- the order does not matter
among_both : (xs ys : List (List Bool)) (a : List Bool) → are_among (xs ++ ys) a ≡ (are_among xs a || are_among ys a)
among_both [] ys a = refl
among_both (x ∷ xs) ys a = ap (λ b. marks_eq a x || b) (among_both xs ys a) ∙ either (marks_eq a x) _ _
  where
    either : (b c d : Bool) → (b || (c || d)) ≡ ((b || c) || d)
    either true c d = refl
    either false c d = refl

pub among_reverse : (xs : List (List Bool)) (a : List Bool) → are_among (reverse xs) a ≡ are_among xs a
among_reverse [] a = refl
among_reverse (x ∷ xs) a = ap (λ l. are_among l a) (reverse-append (x ∷ []) xs) ∙ (among_both (reverse xs) (x ∷ []) a ∙ (ap (λ b. b || (marks_eq a x || false)) (among_reverse xs a) ∙ swap (are_among xs a) (marks_eq a x)))
  where
    swap : (b c : Bool) → (b || (c || false)) ≡ (c || b)
    swap true true = refl
    swap true false = refl
    swap false true = refl
    swap false false = refl

pub marks_more : (ss : List Stack) (s : Stack) → reverse (marks_in (ss ++ s ∷ [])) ≡ (stack_of s).marks ∷ reverse (marks_in ss)
marks_more ss s = ap reverse (map_push (λ s. (stack_of s).marks) ss s) ∙ reverse-append (marks_in ss) ((stack_of s).marks ∷ [])

module _ (starts : List (List Bool)) (f : List (List Bool) → AbstractStack → Bool) where
  lands_settled : (r : says.Reading) → lands r.ok r.err r.still starts f ≡ lands (settled r) None true starts f
  lands_settled r = go r.ok r.err r.still
    where
      go : (q p : Option AbstractStack) (s : Bool) → lands q p s starts f ≡ lands (if is_some p || not s then None else q) None true starts f
      go None None true = refl
      go None None false = refl
      go None (Some e) s = refl
      go (Some b) None true = refl
      go (Some b) None false = refl
      go (Some b) (Some e) true = refl
      go (Some b) (Some e) false = refl

  -- the starts that are still remembered after an ok
  abbrev pub Front : AbstractStack → List (List Bool) → Type 0
  Front b front = ((b.intact ≡ false) × (front ≡ [])) ⊎ ((b.intact ≡ true) × (are_among starts b.marks ≡ false) × (front ≡ starts))

module _ (step : AbstractStack → says.Reading) (k n : ℕ) (starts : List (List Bool)) (a : AbstractStack) (r : says.Reading) (e : n ≡ suc k) (h : r ≡ step a) where
  abbrev rest : List (List Bool) → AbstractStack → Bool
  rest marks b = loops_within step k marks b

  as_landed : loops_within step n starts a ≡ lands (settled r) None true starts rest
  as_landed = ap (λ n. loops_within step n starts a) e ∙ (sym (ap (λ r. lands r.ok r.err r.still starts rest) h) ∙ lands_settled starts rest r)

  pub stopped : settled r ≡ None → false ≡ loops_within step n starts a
  stopped f = sym (as_landed ∙ ap (λ q. lands q None true starts rest) f)

  pub found : (b : AbstractStack) → settled r ≡ Some b → b.intact ≡ true → are_among starts b.marks ≡ true → true ≡ loops_within step n starts a
  found b f i m = sym (as_landed ∙ (ap (λ q. lands q None true starts rest) f ∙ go b.intact (are_among starts b.marks) i m))
    where
      go : (x y : Bool) → x ≡ true → y ≡ true → (if x then (if y then true else rest (b.marks ∷ starts) (made_intact b)) else rest (b.marks ∷ []) (made_intact b)) ≡ true
      go true true i m = refl
      go true false i m = cc
      go false y i m = cc

  pub goes_on : (b c : AbstractStack) (front more : List (List Bool)) → settled r ≡ Some b → c ≡ made_intact b → Front starts rest b front → more ≡ c.marks ∷ front → loops_within step k more c ≡ loops_within step n starts a
  goes_on b c front more f g w m =
      ap (λ l. rest l c) m ∙ (ap (λ c. rest (c.marks ∷ front) c) g ∙ sym (as_landed ∙ (ap (λ q. lands q None true starts rest) f ∙ go b.intact (are_among starts b.marks) w)))
    where
      go : (x y : Bool) → ((x ≡ false) × (front ≡ [])) ⊎ ((x ≡ true) × (y ≡ false) × (front ≡ starts)) → (if x then (if y then true else rest (b.marks ∷ starts) (made_intact b)) else rest (b.marks ∷ []) (made_intact b)) ≡ rest (b.marks ∷ front) (made_intact b)
      go true true (inl p) = cc
      go true true (inr p) = cc
      go true false (inl p) = cc
      go true false (inr p) = ap (λ l. rest (b.marks ∷ l) (made_intact b)) (sym p.2)
      go false y (inl p) = ap (λ l. rest (b.marks ∷ l) (made_intact b)) (sym p.1)
      go false y (inr p) = cc
