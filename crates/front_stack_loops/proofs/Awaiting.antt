-- Nodes that wait for the reading of an operand, and how much is left to do.
use Rattle.std.proofs.Common.{◌≡◌, ◌∙◌, sym, ap, subst, refl, arith, ℕ, zero, suc, ◌+◌, ◌*◌, ◌<◌, ◌≤◌, List, [], ◌∷◌, ◌++◌, Bool, Option, Some, None, Result, length, inl, inr}
use Rattle.std.specs.Prelude.{IfOk}
use Rattle.std.specs.declared.alloc.AllocError.{AllocError}
use Rattle.std.proofs.Math.Nat.{mul-le-mul_right, mul_comm}
use Rattle.std.proofs.lemmas.Nat.{mul-add-lt}
use Rattle.front_stack_domain.specs.Stack.{AbstractStack}
use Rattle.front_stack_domain.specs.Reading as says
use Rattle.front_stack_domain.specs.Reading.{from}
use Rattle.front_stack_domain.specs.Views.{reading_of, stack_of, possible}
use Rattle.front_stack_domain.specs.Walks.{next_after}
use Rattle.front_stack_loops.specs.Memory.{Meaning, IsRight, ReadsNode}
use Rattle.front_stack_loops.specs.Table.{IsMeaning, Inside, Called, HasOrderedOperands, level, nodes_of, node_reading, rank_at}
use Rattle.front_stack_loops.specs.Repeating.{most_readings}
use Rattle.front_stack_loops.specs.Waiting.{both_reading, whole_of, filled, Fills, IsTraced, Lead, next_reading, effort, effort_of, effort_next, effort_awaited, effort_waiting, IsLow, IsNextLow, IsAwaitedLow, AreLow, ReadsOn, IsPut}
use Rattle.front_stack_domain.specs.declared.reading.Reading.{Reading}
use Rattle.front_stack_domain.specs.declared.stack.Stack.{Stack}
use Rattle.front_stack_loops.specs.declared.memory.Memory.{Memory}
use Rattle.front_stack_loops.specs.declared.table.NodeKind.{NodeKind}
use Rattle.front_stack_loops.specs.declared.table.Table.{Table}
use Rattle.front_stack_loops.specs.declared.waiting.Awaited.{Awaited}
use Rattle.front_stack_loops.specs.declared.waiting.Awaited.TheVariants as awaits
use Rattle.front_stack_loops.specs.declared.waiting.How.{How}
use Rattle.front_stack_loops.specs.declared.waiting.How.TheVariants as how
use Rattle.front_stack_loops.specs.declared.waiting.ReadTask.{ReadTask}
use Rattle.front_stack_loops.specs.declared.waiting.ReadTask.TheVariants as next
use Rattle.front_stack_loops.specs.declared.waiting.Waiting.{Waiting}
use Rattle.front_stack_loops.proofs.RankLemmas.{last_or_before}
use Rattle.front_stack_loops.proofs.Work.{where_ok}

module _ (t : Table) (meaning : Meaning) where
  fills_by : (w : Waiting) (r q x y : says.Reading) → r ≡ q → x ≡ y → Fills t meaning w.awaited (stack_of w.stack) q x → Fills t meaning w.awaited (stack_of w.stack) r y
  fills_by w r q x y e f h = subst (λ z. Fills t meaning w.awaited (stack_of w.stack) z y) (sym e) (record { made = h.made ∙ f; traced = h.traced })

  pub lead_push : (ws : List Waiting) (w : Waiting) (whole inner : says.Reading) → Lead t meaning ws whole (meaning w.node (stack_of w.stack))
      → Fills t meaning w.awaited (stack_of w.stack) inner (meaning w.node (stack_of w.stack)) → Lead t meaning (ws ++ w ∷ []) whole inner
  lead_push [] w whole inner h f = (inner, h, fills_by w inner inner _ whole refl h f, refl)
  lead_push (v ∷ vs) w whole inner (i, p, q, r) f = (i, p, q, lead_push vs w i inner r f)

  pub lead_pop : (ws : List Waiting) (w : Waiting) (whole r : says.Reading) → Lead t meaning (ws ++ w ∷ []) whole r
      → Lead t meaning ws whole (meaning w.node (stack_of w.stack)) × Fills t meaning w.awaited (stack_of w.stack) r (meaning w.node (stack_of w.stack))
  lead_pop [] w whole r (i, p, q, e) = (p, fills_by w r i whole _ e (sym p) q)
  lead_pop (v ∷ vs) w whole r (i, p, q, l) = let z = lead_pop vs w i r l in ((i, p, q, z.0), z.1)

effort_some : (m n : ℕ) → 0 < effort m n
unfolding effort
effort_some m zero = let u : effort m zero ≡ 3 = refl in omega arith
effort_some m (suc n) = let u : effort m (suc n) ≡ (m + 3) * (effort m n + 1) = refl in omega arith

effort_more : (m i j : ℕ) → j < i → 2 * effort m j + 3 ≤ effort m i
unfolding effort
effort_more m zero j h = absurd (omega arith)
effort_more m (suc i) j h =
    let u : effort m (suc i) ≡ (m + 3) * (effort m i + 1) = refl in
    elim (last_or_before j i (omega arith)) [
      | inl a ↦ let e = effort_more m i j a in omega arith
      | inr a ↦ let e = ap (effort m) a in omega arith
    ]

effort_all : (m i j n : ℕ) → j < i → n ≤ m → n * (effort m j + 1) < effort m i
unfolding effort
effort_all m zero j n h l = absurd (omega arith)
effort_all m (suc i) j n h l =
    let u : effort m (suc i) ≡ (m + 3) * (effort m i + 1) = refl in
    elim (last_or_before j i (omega arith)) [
      | inl a ↦ let e = effort_all m i j n a l in omega arith
      | inr a ↦
          let e : n * (effort m i + 1) ≤ m * (effort m i + 1) = mul-le-mul_right (effort m i + 1) l in
          let f : n * (effort m i + 1) < effort m (suc i) = omega arith in
          subst (λ k. n * (effort m k + 1) < effort m (suc i)) (sym a) f
    ]

-- there is something to do for a node, and more than for two of lower levels, or for all readings of one
pub some_effort : (t : Table) (node : ℕ) → 0 < effort_of t node
some_effort t node = effort_some (most_readings t) (level t node)

pub more_effort : (t : Table) (i j : ℕ) → level t j < level t i → 2 * effort_of t j + 3 ≤ effort_of t i
more_effort t i j h = effort_more (most_readings t) (level t i) (level t j) h

pub all_effort : (t : Table) (i j n : ℕ) → level t j < level t i → n ≤ most_readings t → n * (effort_of t j + 1) < effort_of t i
all_effort t i j n h l = effort_all (most_readings t) (level t i) (level t j) n h l

pub effort_push : (t : Table) (ws : List Waiting) (w : Waiting) → effort_waiting t (ws ++ w ∷ []) ≡ effort_waiting t ws + effort_awaited t w.awaited
effort_push t [] w = omega arith
effort_push t (v ∷ vs) w = let e = effort_push t vs w in omega arith

pub low_push : (t : Table) (l : ℕ) (ws : List Waiting) (w : Waiting) → AreLow t l ws → IsAwaitedLow t l w.awaited → AreLow t l (ws ++ w ∷ [])
low_push t l [] w h a = (a, tt)
low_push t l (v ∷ vs) w h a = (h.0, low_push t l vs w h.1 a)

pub low_pop : (t : Table) (l : ℕ) (ws : List Waiting) (w : Waiting) → AreLow t l (ws ++ w ∷ []) → AreLow t l ws × IsAwaitedLow t l w.awaited
low_pop t l [] w h = (tt, h.0)
low_pop t l (v ∷ vs) w h = let z = low_pop t l vs w h.1 in ((h.0, z.0), z.1)

-- what stands inside a node has a lower level, and so has a body that it calls
pub level_inside : (t : Table) (i j : ℕ) → Inside t i j → level t j < level t i
level_inside t i j h =
    let a = mul-le-mul_right (suc (length (nodes_of t))) h.rank in
    let b = h.below in omega arith

pub level_called : (t : Table) (i j : ℕ) → Called t i j → level t j < level t i
level_called t i j h =
    let s = suc (length (nodes_of t)) in
    let a : rank_at t j < rank_at t i = h.rank in
    let b : j < s = let w = h.within in omega arith in
    let c : rank_at t j * s + j < s * rank_at t i = mul-add-lt (rank_at t j) s j (rank_at t i) a b in
    let e = mul_comm s (rank_at t i) in omega arith

-- the reading of a node is there
pub done_at_once : (t : Table) (old new : Memory) (node : ℕ) (s : Stack) (ws : List Waiting) (r : Reading)
    → ((meaning : Meaning) → IsMeaning t meaning → IsRight meaning old → IsRight meaning new × (reading_of r ≡ meaning node (stack_of s)))
    → ReadsOn t old new (next.Read node s) ws ws (next.Done r)
done_at_once t old new node s ws r f = record {
  right = λ meaning h i whole lead. let z = f meaning h i in (z.0, subst (Lead t meaning ws whole) (sym z.1) lead);
  less = let e = some_effort t node in omega arith;
  low = λ l p a. (tt, a);
}

-- a leaf tells its reading at once
pub leaf_done : (t : Table) (m : Memory) (node : ℕ) (s : Stack) (ws : List Waiting) (k l : NodeKind) → ((meaning : Meaning) → IsMeaning t meaning → (a : AbstractStack) → meaning node a ≡ node_reading t meaning k a) → k ≡ l
    → (r : Reading) → ((meaning : Meaning) → reading_of r ≡ node_reading t meaning l (stack_of s)) → ReadsOn t m m (next.Read node s) ws ws (next.Done r)
leaf_done t m node s ws k l means is r e = done_at_once t m m node s ws r (λ meaning h i. (i, e meaning ∙ sym (means meaning h (stack_of s) ∙ ap (λ k. node_reading t meaning k (stack_of s)) is)))

-- a node waits for an operand
pub put_on : (t : Table) (m : Memory) (node : ℕ) (s : Stack) (k l : NodeKind) → ((meaning : Meaning) → IsMeaning t meaning → (a : AbstractStack) → meaning node a ≡ node_reading t meaning k a) → k ≡ l
    → (a : Awaited) (operand : ℕ) (ws vs : List Waiting) (q : ReadTask) → ((meaning : Meaning) → filled t meaning a (stack_of s) (meaning operand (stack_of s)) ≡ node_reading t meaning l (stack_of s))
    → ((meaning : Meaning) → IsTraced t meaning a (meaning operand (stack_of s))) → effort_awaited t a + effort_of t operand < effort_of t node → operand < length (nodes_of t) → level t operand < level t node → ((b : ℕ) → level t node ≤ b → IsAwaitedLow t b a)
    → IsPut ws vs node s a operand q → ReadsOn t m m (next.Read node s) ws vs q
put_on t m node s k l means is a operand ws vs q fits none less within below low put =
    let w : Waiting = record { node = node; stack = s; awaited = a } in
    let at : (meaning : Meaning) → meaning operand (stack_of s) ≡ next_reading meaning q = λ meaning. sym (ap (next_reading meaning) put.next) in record {
      right = λ meaning h i whole lead. (
        i,
        subst (λ z. Lead t meaning z whole (next_reading meaning q)) (sym put.items) (subst (Lead t meaning (ws ++ w ∷ []) whole) (at meaning)
            (lead_push t meaning ws w whole (meaning operand (stack_of s)) lead (record {
              made = fits meaning ∙ sym (means meaning h (stack_of s) ∙ ap (λ k. node_reading t meaning k (stack_of s)) is);
              traced = none meaning;
            }))),
      );
      less = let e = ap (effort_next t) put.next in let f = ap (effort_waiting t) put.items ∙ effort_push t ws w in omega arith;
      low = λ b p h. (
        subst (IsNextLow t b) (sym put.next) (record { within = within; low = (let z = p.low in omega arith) }),
        subst (AreLow t b) (sym put.items) (low_push t b ws w h (low b p.low)),
      );
    }

pub wait_last : (t : Table) (m : Memory) (node : ℕ) (s : Stack) (k l : NodeKind) → ((meaning : Meaning) → IsMeaning t meaning → (a : AbstractStack) → meaning node a ≡ node_reading t meaning k a) → k ≡ l
    → (h : How) (operand : ℕ) (ws vs : List Waiting) (q : ReadTask) → ((meaning : Meaning) → filled t meaning (awaits.Last h) (stack_of s) (meaning operand (stack_of s)) ≡ node_reading t meaning l (stack_of s))
    → operand < length (nodes_of t) → level t operand < level t node → IsPut ws vs node s (awaits.Last h) operand q → ReadsOn t m m (next.Read node s) ws vs q
wait_last t m node s k l means is h operand ws vs q fits within below put =
    put_on t m node s k l means is (awaits.Last h) operand ws vs q fits (λ meaning. tt) (let e = more_effort t node operand below in omega arith) within below (λ b p. tt) put

-- a node waits for its only operand, which stands inside it
pub wait_inside : (t : Table) (m : Memory) (node : ℕ) (s : Stack) (k l : NodeKind) → ((meaning : Meaning) → IsMeaning t meaning → (a : AbstractStack) → meaning node a ≡ node_reading t meaning k a) → k ≡ l
    → HasOrderedOperands t node k → (h : How) (operand : ℕ) → (HasOrderedOperands t node l → Inside t node operand)
    → ((meaning : Meaning) → filled t meaning (awaits.Last h) (stack_of s) (meaning operand (stack_of s)) ≡ node_reading t meaning l (stack_of s))
    → (ws vs : List Waiting) (q : Result ReadTask AllocError) → IfOk q (IsPut ws vs node s (awaits.Last h) operand) → IfOk q (ReadsOn t m m (next.Read node s) ws vs)
wait_inside t m node s k l means is lies h operand inside fits ws vs q =
    let below : Inside t node operand = inside (subst (HasOrderedOperands t node) is lies) in
    where_ok q (λ n put. wait_last t m node s k l means is h operand ws vs n fits below.within (level_inside t node operand below) put)

pub wait_first : (t : Table) (m : Memory) (node : ℕ) (s : Stack) (k l : NodeKind) → ((meaning : Meaning) → IsMeaning t meaning → (a : AbstractStack) → meaning node a ≡ node_reading t meaning k a) → k ≡ l
    → (first second : ℕ) (choice : Bool) (ws vs : List Waiting) (q : ReadTask)
    → ((meaning : Meaning) → filled t meaning (awaits.First second choice) (stack_of s) (meaning first (stack_of s)) ≡ node_reading t meaning l (stack_of s))
    → Inside t node first × Inside t node second → IsPut ws vs node s (awaits.First second choice) first q → ReadsOn t m m (next.Read node s) ws vs q
wait_first t m node s k l means is first second choice ws vs q fits inside put =
    let b = level_inside t node first inside.0 in
    let c = level_inside t node second inside.1 in
    let e = more_effort t node first b in
    let f = more_effort t node second c in
    put_on t m node s k l means is (awaits.First second choice) first ws vs q fits (λ meaning. tt) (omega arith) inside.0.within b (λ d p. record { within = inside.1.within; low = (omega arith) }) put

-- the first of two operands is read
pub first_done : (t : Table) (m : Memory) (ws vs : List Waiting) (w : Waiting) (r : Reading) (second : ℕ) (choice : Bool) (q : ReadTask) → w.awaited ≡ awaits.First second choice
    → vs ≡ ws ++ record { node = w.node; stack = w.stack; awaited = awaits.Last (how.Both r choice) } ∷ []
    → ((meaning : Meaning) → next_reading meaning q ≡ from (next_after choice (reading_of r) (stack_of w.stack)) (meaning second)) → effort_next t q ≤ effort_of t second → ((l : ℕ) → IsLow t l second → IsNextLow t l q)
    → ReadsOn t m m (next.Done r) (ws ++ w ∷ []) vs q
first_done t m ws vs w r second choice q is items at less low =
    let v : Waiting = record { node = w.node; stack = w.stack; awaited = awaits.Last (how.Both r choice) } in
    let a = stack_of w.stack in record {
      right = λ meaning h i whole lead.
          let z = lead_pop t meaning ws w whole (reading_of r) lead in (
            i,
            subst (λ y. Lead t meaning y whole (next_reading meaning q)) (sym items) (lead_push t meaning ws v whole (next_reading meaning q) z.0 (record {
              made = ap (both_reading choice t.skips a (reading_of r)) (at meaning) ∙ (ap (λ x. filled t meaning x a (reading_of r)) (sym is) ∙ z.1.made);
              traced = tt;
            })),
          );
      less = let e = ap (effort_waiting t) items ∙ effort_push t ws v in let f = effort_push t ws w in let g = ap (effort_awaited t) is in omega arith;
      low = λ l p h.
          let z = low_pop t l ws w h in (low l (subst (IsAwaitedLow t l) is z.1), subst (AreLow t l) (sym items) (low_push t l ws v z.0 tt));
    }

pub first_then_second : (t : Table) (m : Memory) (ws vs : List Waiting) (w : Waiting) (r : Reading) (second : ℕ) (choice : Bool) (o : Option Stack) (s : Stack) → w.awaited ≡ awaits.First second choice
    → vs ≡ ws ++ record { node = w.node; stack = w.stack; awaited = awaits.Last (how.Both r choice) } ∷ [] → possible o ≡ next_after choice (reading_of r) (stack_of w.stack) → o ≡ Some s
    → ReadsOn t m m (next.Done r) (ws ++ w ∷ []) vs (next.Read second s)
first_then_second t m ws vs w r second choice o s is items after some =
    first_done t m ws vs w r second choice (next.Read second s) is items (λ meaning. ap (λ x. from x (meaning second)) (sym (ap possible some) ∙ after)) (omega arith) (λ l h. h)

pub first_then_none : (t : Table) (m : Memory) (ws vs : List Waiting) (w : Waiting) (r p : Reading) (second : ℕ) (choice : Bool) (o : Option Stack) → w.awaited ≡ awaits.First second choice
    → vs ≡ ws ++ record { node = w.node; stack = w.stack; awaited = awaits.Last (how.Both r choice) } ∷ [] → possible o ≡ next_after choice (reading_of r) (stack_of w.stack) → o ≡ None
    → reading_of p ≡ says.impossible → ReadsOn t m m (next.Done r) (ws ++ w ∷ []) vs (next.Done p)
first_then_none t m ws vs w r p second choice o is items after none never =
    first_done t m ws vs w r second choice (next.Done p) is items (λ meaning. never ∙ ap (λ x. from x (meaning second)) (sym (ap possible none) ∙ after)) (omega arith) (λ l h. tt)

-- the last operand is read
pub last_done : (t : Table) (old new : Memory) (ws : List Waiting) (w : Waiting) (r q : Reading) (h : How) → w.awaited ≡ awaits.Last h → reading_of q ≡ whole_of h t.skips (stack_of w.stack) (reading_of r)
    → ((meaning : Meaning) → IsRight meaning old → reading_of q ≡ meaning w.node (stack_of w.stack) → IsRight meaning new) → ReadsOn t old new (next.Done r) (ws ++ w ∷ []) ws (next.Done q)
last_done t old new ws w r q h is made keep = record {
  right = λ meaning m i whole lead.
      let z = lead_pop t meaning ws w whole (reading_of r) lead in
      let e : reading_of q ≡ filled t meaning w.awaited (stack_of w.stack) (reading_of r) = made ∙ ap (λ x. filled t meaning x (stack_of w.stack) (reading_of r)) (sym is) in
      let f : reading_of q ≡ meaning w.node (stack_of w.stack) = e ∙ z.1.made in
      (keep meaning i f, subst (Lead t meaning ws whole) (sym f) z.0);
  less = let f = effort_push t ws w in let g = ap (effort_awaited t) is in omega arith;
  low = λ l p b. (tt, (low_pop t l ws w b).0);
}

-- a node is read so far
pub record ReadSoFar (t : Table) (old now : Memory) (node : ℕ) (s : Stack) (p : ReadTask) (ws : List Waiting) : Type 0 where
  pub right : (meaning : Meaning) → IsMeaning t meaning → IsRight meaning old → IsRight meaning now × Lead t meaning ws (meaning node (stack_of s)) (next_reading meaning p)
  pub next_low : IsNextLow t (level t node) p
  pub low : AreLow t (level t node) ws

pub read_begun : (t : Table) (m : Memory) (node : ℕ) (s : Stack) (ws : List Waiting) → ws ≡ [] → node < length (nodes_of t) → ReadSoFar t m m node s (next.Read node s) ws
read_begun t m node s ws e within = record {
  right = λ meaning h i. (i, subst (λ z. Lead t meaning z (meaning node (stack_of s)) (meaning node (stack_of s))) (sym e) refl);
  next_low = record { within = within; low = omega arith };
  low = subst (AreLow t (level t node)) (sym e) tt;
}

pub read_on : (t : Table) (old now new : Memory) (node : ℕ) (s : Stack) (p q : ReadTask) (ws vs : List Waiting) → ReadSoFar t old now node s p ws → ReadsOn t now new p ws vs q → ReadSoFar t old new node s q vs
read_on t old now new node s p q ws vs so on = record {
  right = λ meaning h i. let z = so.right meaning h i in on.right meaning h z.0 (meaning node (stack_of s)) z.1;
  next_low = (on.low (level t node) so.next_low so.low).0;
  low = (on.low (level t node) so.next_low so.low).1;
}

pub read_done : (t : Table) (old now : Memory) (node : ℕ) (s : Stack) (p : ReadTask) (ws : List Waiting) (r : Reading) → ReadSoFar t old now node s p ws → p ≡ next.Done r → ws ≡ [] → ReadsNode t old now node (stack_of s) r
read_done t old now node s p ws r so is none = record {
  value = λ meaning h i.
      let l = (so.right meaning h i).1 in
      subst (λ q. next_reading meaning q ≡ meaning node (stack_of s)) is (subst (λ z. Lead t meaning z (meaning node (stack_of s)) (next_reading meaning p)) none l);
  kept = λ meaning h i. (so.right meaning h i).0;
}
