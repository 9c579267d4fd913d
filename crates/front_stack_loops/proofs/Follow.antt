-- Copies and turns, followed so far.
use Rattle.std.proofs.Common.{◌≡◌, ℕ, zero, suc, ◌+◌, ◌-◌, ◌<◌, ◌≤◌, ◌%◌, List, [], ◌∷◌, ◌++◌, Option, Some, None, Bool, true, false, slice_get, reverse, length, refl, sym, ◌∙◌, ap, arith, ◌⊎◌, inl, inr, append_assoc, ◌||◌}
use Rattle.front_stack_domain.specs.Stack.{AbstractStack, is_among, stack_eq, unknown}
use Rattle.front_stack_domain.specs.Reading as says
use Rattle.front_stack_domain.specs.Reading.{turns, onward, walk, Required, Optional}
use Rattle.front_stack_loops.specs.Table.{IsMeaning}
use Rattle.front_stack_domain.specs.Walks.{stepped, turned}
use Rattle.front_stack_loops.proofs.Counts.{times_more, times_left}
use Rattle.std.proofs.lemmas.Option.{slice_get_within, slice_get_cases}
use Rattle.std.proofs.lemmas.List.{length_push, map_push, reverse-append}
use Rattle.front_stack_loops.specs.Memory.{Meaning, IsRight}
use Rattle.front_stack_loops.specs.Following.{times, copy_step, seen_stacks, IsForeseen, IsRun, IsTrace, IsWalkAt}
use Rattle.front_stack_domain.specs.Reported.{turn_starts}
use Rattle.front_stack_domain.specs.Views.{stack_of, walk_of, possible}
use Rattle.front_stack_domain.specs.declared.stack.Stack.{Stack}
use Rattle.front_stack_domain.specs.declared.reading.Walk.{Walk}
use Rattle.front_stack_loops.specs.declared.table.Table.{Table}
use Rattle.front_stack_loops.specs.declared.memory.Memory.{Memory}
use Rattle.front_stack_loops.proofs.RankLemmas.{less_or_not}

-- some copies were followed, and none of them came back
pub record FollowedSoFar (t : Table) (old now : Memory) (body : ℕ) (required : Bool) (done : ℕ) (w : says.Walk) (items : List Walk) (v : Walk) : Type 0 where
  pub count : length items ≡ done
  pub kept : (meaning : Meaning) → IsMeaning t meaning → IsRight meaning old → IsRight meaning now
  pub value : (meaning : Meaning) → IsMeaning t meaning → IsRight meaning old → walk_of v ≡ times done (copy_step t meaning body required) w
  pub each : (meaning : Meaning) → IsMeaning t meaning → IsRight meaning old → (j : ℕ) (u : Walk) → slice_get items j ≡ Some u → walk_of u ≡ times j (copy_step t meaning body required) w

-- some turns were followed
pub record TurnedSoFar (t : Table) (old now : Memory) (body : ℕ) (done : ℕ) (w : says.Walk) (seen : List Stack) (next : Option Stack) (v : Walk) : Type 0 where
  pub kept : (meaning : Meaning) → IsMeaning t meaning → IsRight meaning old → IsRight meaning now
  pub value : (meaning : Meaning) → IsMeaning t meaning → IsRight meaning old
      → turns t.limit (meaning body) (t.limit - done) (reverse (seen_stacks seen)) (possible next) (walk_of v) ≡ says.onward t.limit (meaning body) says.Endless w.here w
  pub starts : (meaning : Meaning) → IsMeaning t meaning → IsRight meaning old
      → seen_stacks seen ++ turn_starts (meaning body) (t.limit - done) (reverse (seen_stacks seen)) (possible next) ≡ turn_starts (meaning body) t.limit [] w.here

-- the last of a list, or one before it
got_last : {A : Type 0} (xs : List A) (y : A) (j : ℕ) (u : A) → slice_get (xs ++ y ∷ []) j ≡ Some u → (slice_get xs j ≡ Some u) ⊎ ((j ≡ length xs) × (u ≡ y))
got_last [] y zero u e = inr (refl, cc)
got_last [] y (suc j) u e = cc
got_last (x ∷ xs) y zero u e = inl e
got_last (x ∷ xs) y (suc j) u e = elim (got_last xs y j u e) [ inl i ↦ inl i | inr p ↦ inr (ap suc p.0, p.1) ]

module _ (f : says.Walk → says.Walk) (w : says.Walk) where
  -- where a walk comes again, later ones are those of the period
  pub back : (i j k : ℕ) → j < i → times i f w ≡ times j f w → times (j + k % (i - j)) f w ≡ times (i + k) f w
  back i j k h e =
      let p : i ≡ j + (i - j) = omega arith in
      let x : times (i - j) f (times j f w) ≡ times j f w = sym (times_more j (i - j) f w) ∙ (ap (λ n. times n f w) (sym p) ∙ e) in
      times_more j (k % (i - j)) f w ∙ (sym (times_left (i - j) k f (times j f w) (omega arith) x) ∙ (ap (λ v. times k f v) (sym e) ∙ sym (times_more i k f w)))

  pub place_back : (i j n : ℕ) → j < i → i ≤ n → times i f w ≡ times j f w → times (j + (n - i) % (i - j)) f w ≡ times n f w
  place_back i j n h l e = let q : n ≡ i + (n - i) = omega arith in back i j (n - i) h e ∙ ap (λ m. times m f w) (sym q)

  -- the walks that were gone through so far
  abbrev pub Each : List Walk → Type 0
  Each items = (j : ℕ) (u : Walk) → slice_get items j ≡ Some u → walk_of u ≡ times j f w

  pub each_more : (items : List Walk) (v : Walk) (done : ℕ) → length items ≡ done → Each items → walk_of v ≡ times done f w → Each (items ++ v ∷ [])
  each_more items v done l h e j u g = elim (got_last items v j u g) [ inl i ↦ h j u i | inr p ↦ ap walk_of p.1 ∙ (e ∙ ap (λ n. times n f w) (sym l ∙ sym p.0)) ]

  comes_at : (items : List Walk) (i : ℕ) → i < length items → Each items → IsWalkAt items (times i f w) i
  comes_at items i h each = elim ((slice_get_cases items i).1) [ inl x ↦ record { walk = x.0; at = x.2; same = each i x.0 x.2 } | inr x ↦ absurd (let y = x.0 in omega arith) ]

  pub traced_all : (items : List Walk) (n : ℕ) → length items ≡ n → Each items → IsTrace f n w items
  traced_all items n l each = record {
    each = λ j v g. (each j v g, let k = slice_get_within items j v g in omega arith);
    all = λ i h. (i, comes_at items i (omega arith) each);
  }

  pub traced_back : (items : List Walk) (i j n : ℕ) → length items ≡ i → j < i → i ≤ n → times i f w ≡ times j f w → Each items → IsTrace f n w items
  traced_back items i j n l h b e each = record {
    each = λ k v g. (each k v g, let m = slice_get_within items k v g in omega arith);
    all = all;
  }
    where
      far : (k : ℕ) → i ≤ k → (j : ℕ) × IsWalkAt items (times k f w) j
      far k x =
          let place : ℕ = j + (k - i) % (i - j) in
          let small : (k - i) % (i - j) < i - j = omega arith in
          let found = comes_at items place (omega arith) each in
          (place, record { walk = found.walk; at = found.at; same = found.same ∙ place_back i j k h x e })

      all : (k : ℕ) → k < n → (j : ℕ) × IsWalkAt items (times k f w) j
      all k x = elim (less_or_not k i) [ inl y ↦ (k, comes_at items k (omega arith) each) | inr y ↦ far k y ]

-- one walk more
pub run_more : (f : says.Walk → says.Walk) (start : says.Walk) (items : List Walk) (v : Walk) (w : says.Walk) → IsRun f start items (walk_of v) → w ≡ f (walk_of v) → IsRun f start (items ++ v ∷ []) w
run_more f start items v w run e = record {
  each = each_more f start items v (length items) refl run.each run.here;
  here = e ∙ (ap f run.here ∙ (sym (times_more (length items) 1 f start) ∙ ap (λ n. times n f start) (sym (length_push items v))));
}

pub foreseen_now : (items : List Walk) (w : Walk) (left : ℕ) → left ≡ 0 → IsForeseen items (walk_of w) left w
foreseen_now items w left e = record {
  value = λ f start run. ap (λ n. times n f (walk_of w)) (sym e);
  trace = λ f start run. traced_all f start items (length items + left) (omega arith) run.each;
}

-- a walk that stood before leads on as it did there
pub foreseen_back : (items : List Walk) (w v : Walk) (left place : ℕ) → IsWalkAt items (walk_of w) place → slice_get items (place + left % (length items - place)) ≡ Some v → IsForeseen items (walk_of w) left v
foreseen_back items w v left place found got =
    let i : ℕ = length items in
    let small : place < i = slice_get_within items place found.walk found.at in
    let again : (f : says.Walk → says.Walk) (start : says.Walk) → IsRun f start items (walk_of w) → times i f start ≡ times place f start = λ f start run. sym run.here ∙ (sym found.same ∙ run.each place found.walk found.at) in record {
      value = λ f start run. run.each (place + left % (i - place)) v got ∙ (back f start i place left small (again f start run) ∙ (times_more i left f start ∙ ap (times left f) (sym run.here)));
      trace = λ f start run. traced_back f start items i place (i + left) refl small (omega arith) (again f start run) run.each;
    }

-- one copy more
pub step_value : (t : Table) (meaning : Meaning) (body : ℕ) (required : Bool) (w : Walk) (s : Stack) (r : says.Reading) → w.here ≡ Some s → r ≡ meaning body (stack_of s) → stepped required (stack_of s) r (walk_of w) ≡ copy_step t meaning body required (walk_of w)
step_value t meaning body true w s r e h = ap (λ x. stepped true (stack_of s) x (walk_of w)) h ∙ sym (ap (λ q. onward t.limit (meaning body) Required (possible q) (walk_of w)) e)
step_value t meaning body false w s r e h = ap (λ x. stepped false (stack_of s) x (walk_of w)) h ∙ sym (ap (λ q. onward t.limit (meaning body) Optional (possible q) (walk_of w)) e)

pub step_none : (t : Table) (meaning : Meaning) (body : ℕ) (required : Bool) (w : Walk) → w.here ≡ None → walk_of w ≡ copy_step t meaning body required (walk_of w)
step_none t meaning body true w e = sym (ap (λ q. onward t.limit (meaning body) Required (possible q) (walk_of w)) e)
step_none t meaning body false w e = sym (ap (λ q. onward t.limit (meaning body) Optional (possible q) (walk_of w)) e)

module _ (limit : ℕ) (step : AbstractStack → says.Reading) where
  pub turns_none : (k : ℕ) (seen : List AbstractStack) (w : says.Walk) → 0 < k → turns limit step k seen None w ≡ w
  unfolding turns
  turns_none zero seen w h = absurd (omega arith)
  turns_none (suc k) seen w h = refl

  pub starts_none : (k : ℕ) (seen : List AbstractStack) → turn_starts step k seen None ≡ []
  unfolding turn_starts
  starts_none zero seen = refl
  starts_none (suc k) seen = refl

  pub turns_again : (k : ℕ) (seen : List AbstractStack) (a : AbstractStack) (w : says.Walk) → 0 < k → is_among seen a ≡ true → turns limit step k seen (Some a) w ≡ w
  unfolding turns
  turns_again zero seen a w h e = absurd (omega arith)
  turns_again (suc k) seen a w h e = rw e refl

  pub starts_again : (k : ℕ) (seen : List AbstractStack) (a : AbstractStack) → is_among seen a ≡ true → turn_starts step k seen (Some a) ≡ []
  unfolding turn_starts
  starts_again zero seen a e = refl
  starts_again (suc k) seen a e = rw e refl

  pub turns_on : (k n : ℕ) (seen : List AbstractStack) (a : AbstractStack) (w : says.Walk) → n ≡ suc k → is_among seen a ≡ false → turns limit step n seen (Some a) w ≡ turns limit step k (a ∷ seen) (step a).ok (turned a (step a) w)
  unfolding turns
  turns_on k zero seen a w h e = absurd (omega arith)
  turns_on k (suc n) seen a w h e = rw e (let m : n ≡ k = omega arith in ap (λ n. turns limit step n (a ∷ seen) (step a).ok (turned a (step a) w)) m)

  pub starts_on : (k n : ℕ) (seen : List AbstractStack) (a : AbstractStack) → n ≡ suc k → is_among seen a ≡ false → turn_starts step n seen (Some a) ≡ a ∷ turn_starts step k (a ∷ seen) (step a).ok
  unfolding turn_starts
  starts_on k zero seen a h e = absurd (omega arith)
  starts_on k (suc n) seen a h e = rw e (let m : n ≡ k = omega arith in ap (λ n. a ∷ turn_starts step n (a ∷ seen) (step a).ok) m)

  pub over_value : (k : ℕ) (seen : List AbstractStack) (q : Option AbstractStack) (w : says.Walk) (u : AbstractStack) → k ≡ 0 → u ≡ unknown → (let v : says.Walk = record { here = Some u; failing = w.failing; still = false } in v) ≡ turns limit step k seen q w
  unfolding turns
  over_value zero seen q w u e h = ap (λ u. let v : says.Walk = record { here = Some u; failing = w.failing; still = false } in v) h
  over_value (suc k) seen q w u e h = absurd (omega arith)

  pub starts_over : (k : ℕ) (seen : List AbstractStack) (q : Option AbstractStack) → k ≡ 0 → turn_starts step k seen q ≡ []
  unfolding turn_starts
  starts_over zero seen q e = refl
  starts_over (suc k) seen q e = absurd (omega arith)

-- the order does not matter
among_both : (xs ys : List AbstractStack) (a : AbstractStack) → is_among (xs ++ ys) a ≡ (is_among xs a || is_among ys a)
among_both [] ys a = refl
among_both (x ∷ xs) ys a = ap (λ b. stack_eq a x || b) (among_both xs ys a) ∙ either (stack_eq a x) _ _
  where
    either : (b c d : Bool) → (b || (c || d)) ≡ ((b || c) || d)
    either true c d = refl
    either false c d = refl

pub among_reverse : (xs : List AbstractStack) (a : AbstractStack) → is_among (reverse xs) a ≡ is_among xs a
among_reverse [] a = refl
among_reverse (x ∷ xs) a = ap (λ l. is_among l a) (reverse-append (x ∷ []) xs) ∙ (among_both (reverse xs) (x ∷ []) a ∙ (ap (λ b. b || (stack_eq a x || false)) (among_reverse xs a) ∙ swap (is_among xs a) (stack_eq a x)))
  where
    swap : (b c : Bool) → (b || (c || false)) ≡ (c || b)
    swap true true = refl
    swap true false = refl
    swap false true = refl
    swap false false = refl

pub seen_more : (ss : List Stack) (s : Stack) → reverse (seen_stacks (ss ++ s ∷ [])) ≡ stack_of s ∷ reverse (seen_stacks ss)
seen_more ss s = ap reverse (map_push stack_of ss s) ∙ reverse-append (seen_stacks ss) (stack_of s ∷ [])

module _ (limit : ℕ) (step : AbstractStack → says.Reading) (k n : ℕ) where
  -- one turn more
  pub turn_on : (seen more : List AbstractStack) (a : AbstractStack) (w v : says.Walk) (q p : Option AbstractStack) (r : says.Reading)
      → n ≡ suc k → is_among seen a ≡ false → q ≡ Some a → more ≡ a ∷ seen → r ≡ step a → p ≡ r.ok → v ≡ turned a r w
      → turns limit step k more p v ≡ turns limit step n seen q w
  turn_on seen more a w v q p r e f g h i j l =
      let x : p ≡ (step a).ok = j ∙ ap (λ r. r.ok) i in
      let y : v ≡ turned a (step a) w = l ∙ ap (λ r. turned a r w) i in
      ap (λ l. turns limit step k l p v) h ∙ (ap (λ p. turns limit step k (a ∷ seen) p v) x ∙ (ap (λ v. turns limit step k (a ∷ seen) (step a).ok v) y
      ∙ (sym (turns_on limit step k n seen a w e f) ∙ ap (λ q. turns limit step n seen q w) (sym g))))

  pub start_on : (front longer seen more : List AbstractStack) (a : AbstractStack) (q p : Option AbstractStack) (r : says.Reading)
      → n ≡ suc k → is_among seen a ≡ false → q ≡ Some a → more ≡ a ∷ seen → r ≡ step a → p ≡ r.ok → longer ≡ front ++ a ∷ []
      → longer ++ turn_starts step k more p ≡ front ++ turn_starts step n seen q
  start_on front longer seen more a q p r e f g h i j l =
      let x : p ≡ (step a).ok = j ∙ ap (λ r. r.ok) i in
      ap (λ z. z ++ turn_starts step k more p) l ∙ (append_assoc front (a ∷ []) (turn_starts step k more p)
      ∙ ap (λ z. front ++ z) (ap (λ l. a ∷ turn_starts step k l p) h ∙ (ap (λ p. a ∷ turn_starts step k (a ∷ seen) p) x ∙ (sym (starts_on limit step k n seen a e f) ∙ ap (λ q. turn_starts step n seen q) (sym g)))))
