-- Stacks that are collected.
use Rattle.std.proofs.Common.{◌≡◌, ℕ, zero, suc, ◌+◌, ◌<◌, ◌≤◌, List, [], ◌∷◌, ◌++◌, Option, Some, None, Bool, true, false, ◌⊎◌, inl, inr, slice_get, length, refl, sym, ◌∙◌, ap, subst, arith}
use Rattle.std.proofs.lemmas.List.{map_push}
use Rattle.std.proofs.lemmas.Option.{slice_get_within}
use Rattle.front_stack_domain.specs.Stack.{AbstractStack, In, is_among}
use Rattle.front_stack_loops.specs.Table.{IsMeaning}
use Rattle.front_stack_loops.specs.Memory.{Meaning, IsRight, AnswersRightly}
use Rattle.front_stack_loops.specs.Searching.{itself}
use Rattle.front_stack_loops.specs.Following.{seen_stacks}
use Rattle.front_stack_domain.specs.Reading.{loops}
use Rattle.front_stack_loops.specs.Visiting.{AddsStack, AddsAll, AddsEach, AddsWhere, Collects, FindsLoop}
use Rattle.front_stack_domain.specs.Views.{stack_of, possible}
use Rattle.front_stack_domain.specs.declared.stack.Stack.{Stack}
use Rattle.front_stack_domain.specs.declared.reading.Walk.{Walk}
use Rattle.front_stack_loops.specs.declared.table.Table.{Table}
use Rattle.front_stack_loops.specs.declared.memory.Memory.{Memory}
use Rattle.front_stack_loops.proofs.RankLemmas.{last_or_before}
use Rattle.front_stack_domain.proofs.Stacks.{among}
use Rattle.front_stack_domain.proofs.Routes.{in_split}

pub in_left : {A : Type 0} (x : A) (ys zs : List A) → In x ys → In x (ys ++ zs)
in_left x [] zs h = absurd h
in_left x (y ∷ ys) zs (inl e) = inl e
in_left x (y ∷ ys) zs (inr i) = inr (in_left x ys zs i)

pub in_right : {A : Type 0} (x : A) (ys zs : List A) → In x zs → In x (ys ++ zs)
in_right x [] zs h = h
in_right x (y ∷ ys) zs h = inr (in_right x ys zs h)

only_one : {A : Type 0} (x y : A) → In x (y ∷ []) → x ≡ y
only_one x y (inl e) = e
only_one x y (inr i) = absurd i

pub adds_new : (old new : List Stack) (s : Stack) → new ≡ old ++ s ∷ [] → AddsStack old new (stack_of s)
adds_new old new s e =
    let m : seen_stacks new ≡ seen_stacks old ++ stack_of s ∷ [] = ap seen_stacks e ∙ map_push stack_of old s in record {
      kept = λ b i. subst (λ l. In b l) (sym m) (in_left b (seen_stacks old) (stack_of s ∷ []) i);
      added = subst (λ l. In (stack_of s) l) (sym m) (in_right (stack_of s) (seen_stacks old) (stack_of s ∷ []) (inl refl));
      others = λ b i. elim (in_split b (seen_stacks old) (stack_of s ∷ []) (subst (λ l. In b l) m i)) [ inl j ↦ inl j | inr j ↦ inr (only_one b (stack_of s) j) ];
    }

pub adds_none : (ss : List Stack) (s : Stack) → is_among (seen_stacks ss) (stack_of s) ≡ true → AddsStack ss ss (stack_of s)
adds_none ss s e = record { kept = λ b i. i; added = among (seen_stacks ss) (stack_of s) e; others = λ b i. inl i }

pub in_at : (ss : List Stack) (j : ℕ) (s : Stack) → slice_get ss j ≡ Some s → In (stack_of s) (seen_stacks ss)
in_at [] j s e = cc
in_at (t ∷ ss) zero s e = inl (let h : s ≡ t = cc in ap stack_of h)
in_at (t ∷ ss) (suc j) s e = inr (in_at ss j s e)

pub at_in : (ss : List Stack) (a : AbstractStack) → In a (seen_stacks ss) → (j : ℕ) × (s : Stack) × (slice_get ss j ≡ Some s) × (a ≡ stack_of s)
at_in [] a h = absurd h
at_in (t ∷ ss) a (inl e) = (0, t, refl, e)
at_in (t ∷ ss) a (inr i) = let r = at_in ss a i in (suc r.0, r.1, r.2, r.3)

same_item : {A : Type 0} (o : Option A) (x y : A) → o ≡ Some x → o ≡ Some y → x ≡ y
same_item o x y e f = let h : Some x ≡ Some y = sym e ∙ f in cc

-- the walks of a trace, so far
pub record AddsTo (n : ℕ) (old new : List Stack) (trace : List Walk) : Type 0 where
  pub kept : (b : AbstractStack) → In b (seen_stacks old) → In b (seen_stacks new)
  pub added : (j : ℕ) (w : Walk) (b : AbstractStack) → j < n → slice_get trace j ≡ Some w → possible w.here ≡ Some b → In b (seen_stacks new)
  pub others : (b : AbstractStack) → In b (seen_stacks new) → In b (seen_stacks old) ⊎ ((j : ℕ) × (w : Walk) × (slice_get trace j ≡ Some w) × (possible w.here ≡ Some b))

pub walk_added : (n : ℕ) (old mid new : List Stack) (trace : List Walk) (w : Walk) (s : Stack) → AddsTo n old mid trace → slice_get trace n ≡ Some w → w.here ≡ Some s → AddsStack mid new (stack_of s) → AddsTo (n + 1) old new trace
walk_added n old mid new trace w s h g e a = record {
  kept = λ b i. a.kept b (h.kept b i);
  added = λ j v b l i k. elim (last_or_before j n l) [
    | inl m ↦ a.kept b (h.added j v b m i k)
    | inr m ↦ let v' : v ≡ w = same_item (slice_get trace n) v w (ap (slice_get trace) (sym m) ∙ i) g in
        let x : Some b ≡ Some (stack_of s) = sym k ∙ (ap (λ v. possible v.here) v' ∙ ap possible e) in
        let y : b ≡ stack_of s = cc in subst (λ c. In c (seen_stacks new)) (sym y) a.added
  ];
  others = λ b i. elim (a.others b i) [ inl j ↦ h.others b j | inr j ↦ inr (n, w, g, ap possible e ∙ ap Some (sym j)) ];
}

pub walk_passed : (n : ℕ) (old mid : List Stack) (trace : List Walk) (w : Walk) → AddsTo n old mid trace → slice_get trace n ≡ Some w → w.here ≡ None → AddsTo (n + 1) old mid trace
walk_passed n old mid trace w h g e = record {
  kept = h.kept;
  added = λ j v b l i k. elim (last_or_before j n l) [
    | inl m ↦ h.added j v b m i k
    | inr m ↦ let v' : v ≡ w = same_item (slice_get trace n) v w (ap (slice_get trace) (sym m) ∙ i) g in
        let x : Some b ≡ None = sym k ∙ (ap (λ v. possible v.here) v' ∙ ap possible e) in cc
  ];
  others = h.others;
}

pub walks_added : (n : ℕ) (old new : List Stack) (trace : List Walk) → length trace ≤ n → AddsTo n old new trace → AddsAll old new trace
walks_added n old new trace l h = record { kept = h.kept; added = λ j w b i k. h.added j w b (let m = slice_get_within trace j w i in omega arith) i k; others = h.others }

-- stacks, so far
pub record AddsUpTo (n : ℕ) (old new more : List Stack) : Type 0 where
  pub kept : (b : AbstractStack) → In b (seen_stacks old) → In b (seen_stacks new)
  pub added : (j : ℕ) (s : Stack) → j < n → slice_get more j ≡ Some s → In (stack_of s) (seen_stacks new)
  pub others : (b : AbstractStack) → In b (seen_stacks new) → In b (seen_stacks old) ⊎ In b (seen_stacks more)

pub stack_added : (n : ℕ) (old mid new more : List Stack) (s : Stack) → AddsUpTo n old mid more → slice_get more n ≡ Some s → AddsStack mid new (stack_of s) → AddsUpTo (n + 1) old new more
stack_added n old mid new more s h g a = record {
  kept = λ b i. a.kept b (h.kept b i);
  added = λ j v l i. elim (last_or_before j n l) [
    | inl m ↦ a.kept (stack_of v) (h.added j v m i)
    | inr m ↦ let v' : v ≡ s = same_item (slice_get more n) v s (ap (slice_get more) (sym m) ∙ i) g in subst (λ c. In (stack_of c) (seen_stacks new)) (sym v') a.added
  ];
  others = λ b i. elim (a.others b i) [ inl j ↦ h.others b j | inr j ↦ inr (subst (λ c. In c (seen_stacks more)) (sym j) (in_at more n s g)) ];
}

pub stacks_added : (n : ℕ) (old new more : List Stack) → length more ≤ n → AddsUpTo n old new more → AddsEach old new more
stacks_added n old new more l h = record {
  kept = h.kept;
  added = λ b i. let r = at_in more b i in subst (λ c. In c (seen_stacks new)) (sym r.3) (h.added r.0 r.1 (let m = slice_get_within more r.0 r.1 r.2 in omega arith) r.2);
  others = h.others;
}

-- what comes from stacks, so far
pub record CollectsTo (n : ℕ) (t : Table) (old new : Memory) (P : Meaning → AbstractStack → AbstractStack → Type 0) (ss found : List Stack) : Type 0 where
  pub kept : (meaning : Meaning) → IsMeaning t meaning → IsRight meaning old → IsRight meaning new
  pub sound : (meaning : Meaning) → IsMeaning t meaning → IsRight meaning old → (b : AbstractStack) → In b (seen_stacks found) → (a : AbstractStack) × In a (seen_stacks ss) × P meaning a b
  pub complete : (meaning : Meaning) → IsMeaning t meaning → IsRight meaning old → (j : ℕ) (s : Stack) (b : AbstractStack) → j < n → slice_get ss j ≡ Some s → P meaning (stack_of s) b → In b (seen_stacks found)

pub collects_none : (t : Table) (m : Memory) (P : Meaning → AbstractStack → AbstractStack → Type 0) (ss found : List Stack) → found ≡ [] → CollectsTo 0 t m m P ss found
collects_none t m P ss found e = record {
  kept = λ meaning h i. i;
  sound = λ meaning h i b j. absurd (subst (λ l. In b (seen_stacks l)) e j);
  complete = λ meaning h i j s b l. absurd (omega arith);
}

pub collects_more : (n : ℕ) (t : Table) (old mid new : Memory) (P : Meaning → AbstractStack → AbstractStack → Type 0) (ss found more : List Stack) (s : Stack)
    → CollectsTo n t old mid P ss found → slice_get ss n ≡ Some s → AddsWhere t mid new (λ meaning b. P meaning (stack_of s) b) found more → CollectsTo (n + 1) t old new P ss more
collects_more n t old mid new P ss found more s c g a = record {
  kept = λ meaning h i. a.kept meaning h (c.kept meaning h i);
  sound = λ meaning h i b j. elim (a.sound meaning h (c.kept meaning h i) b j) [ inl k ↦ c.sound meaning h i b k | inr k ↦ (stack_of s, in_at ss n s g, k) ];
  complete = λ meaning h i j u b l k p. elim (last_or_before j n l) [
    | inl m ↦ a.front b (c.complete meaning h i j u b m k p)
    | inr m ↦ let u' : u ≡ s = same_item (slice_get ss n) u s (ap (slice_get ss) (sym m) ∙ k) g in a.complete meaning h (c.kept meaning h i) b (subst (λ v. P meaning (stack_of v) b) u' p)
  ];
}

pub collected : (n : ℕ) (t : Table) (old new : Memory) (P : Meaning → AbstractStack → AbstractStack → Type 0) (ss found : List Stack) → length ss ≤ n → CollectsTo n t old new P ss found → Collects t old new P ss found
collected n t old new P ss found l c = record {
  kept = c.kept;
  sound = c.sound;
  complete = λ meaning h i a b j p. let r = at_in ss a j in c.complete meaning h i r.0 r.1 b (let m = slice_get_within ss r.0 r.1 r.2 in omega arith) r.2 (subst (λ x. P meaning x b) r.3 p);
}

-- where one more stack is looked at
pub after_one : (t : Table) (old new : Memory) (P : Meaning → AbstractStack → Type 0) (front back : List Stack) (q : Option Stack)
    → ((meaning : Meaning) → IsMeaning t meaning → IsRight meaning old → IsRight meaning new)
    → ((meaning : Meaning) → IsMeaning t meaning → IsRight meaning old → (b : AbstractStack) → P meaning b → possible q ≡ Some b)
    → ((meaning : Meaning) → IsMeaning t meaning → IsRight meaning old → (b : AbstractStack) → possible q ≡ Some b → P meaning b)
    → ((s : Stack) → q ≡ Some s → AddsStack front back (stack_of s)) → (q ≡ None → back ≡ front) → AddsWhere t old new P front back
after_one t old new P front back (Some s) k to of f g =
    let a = f s refl in record {
      kept = k;
      front = a.kept;
      sound = λ meaning h i b j. elim (a.others b j) [ inl x ↦ inl x | inr x ↦ inr (of meaning h i b (ap Some (sym x))) ];
      complete = λ meaning h i b p. let x : Some (stack_of s) ≡ Some b = to meaning h i b p in let y : stack_of s ≡ b = cc in subst (λ c. In c (seen_stacks back)) y a.added;
    }
after_one t old new P front back None k to of f g =
    let e = g refl in record {
      kept = k;
      front = λ b j. subst (λ l. In b (seen_stacks l)) (sym e) j;
      sound = λ meaning h i b j. inl (subst (λ l. In b (seen_stacks l)) e j);
      complete = λ meaning h i b p. let x : None ≡ Some b = to meaning h i b p in cc;
    }

-- no loop was found, so far
pub record NoLoopTo (n : ℕ) (t : Table) (old new : Memory) (body : ℕ) (ss : List Stack) : Type 0 where
  pub kept : (meaning : Meaning) → IsMeaning t meaning → IsRight meaning old → IsRight meaning new
  pub none : (meaning : Meaning) → IsMeaning t meaning → IsRight meaning old → (j : ℕ) (s : Stack) → j < n → slice_get ss j ≡ Some s → loops t.turns (meaning body) (stack_of s) ≡ false

module _ (n : ℕ) (t : Table) (old mid new : Memory) (body : ℕ) (ss : List Stack) (s : Stack) (h : NoLoopTo n t old mid body ss) (g : slice_get ss n ≡ Some s) where
  pub loop_found : (b : Bool) → AnswersRightly itself (λ meaning. loops t.turns (meaning body) (stack_of s)) t mid new b → b ≡ true → FindsLoop t old new body ss true
  loop_found b v e = record {
    kept = λ meaning k i. v.kept meaning k (h.kept meaning k i);
    yes = λ meaning k i x. (stack_of s, in_at ss n s g, sym (v.value meaning k (h.kept meaning k i)) ∙ e);
    no = λ meaning k i x. cc;
  }

  pub no_loop_more : (b : Bool) → AnswersRightly itself (λ meaning. loops t.turns (meaning body) (stack_of s)) t mid new b → b ≡ false → NoLoopTo (n + 1) t old new body ss
  no_loop_more b v e = record {
    kept = λ meaning k i. v.kept meaning k (h.kept meaning k i);
    none = λ meaning k i j u l x. elim (last_or_before j n l) [
      | inl m ↦ h.none meaning k i j u m x
      | inr m ↦ let u' : u ≡ s = same_item (slice_get ss n) u s (ap (slice_get ss) (sym m) ∙ x) g in
          ap (λ u. loops t.turns (meaning body) (stack_of u)) u' ∙ (sym (v.value meaning k (h.kept meaning k i)) ∙ e)
    ];
  }

pub no_loop_at_all : (n : ℕ) (t : Table) (old new : Memory) (body : ℕ) (ss : List Stack) → length ss ≤ n → NoLoopTo n t old new body ss → FindsLoop t old new body ss false
no_loop_at_all n t old new body ss l h = record {
  kept = h.kept;
  yes = λ meaning k i x. cc;
  no = λ meaning k i x a j e. let r = at_in ss a j in
      let f : loops t.turns (meaning body) a ≡ false = ap (loops t.turns (meaning body)) r.3 ∙ h.none meaning k i r.0 r.1 (let m = slice_get_within ss r.0 r.1 r.2 in omega arith) r.2 in cc;
}
