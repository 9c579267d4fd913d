-- Repetitions whose copies and turns are followed one at a time.
use Rattle.std.proofs.Common.{◌≡◌, ◌∙◌, sym, ap, subst, refl, arith, ℕ, suc, ◌+◌, ◌*◌, ◌-◌, ◌<◌, ◌≤◌, List, [], ◌∷◌, ◌++◌, replicate, reverse, Bool, true, false, not, Option, Some, None, if◌then◌else◌}
use Rattle.std.proofs.Math.Nat.{mul-le-mul_right}
use Rattle.std.proofs.lemmas.Option.{slice_get_within}
use Rattle.std.proofs.lemmas.Bool.{not-false, not-true}
use Rattle.front_stack_domain.specs.Stack.{AbstractStack, is_among, unknown}
use Rattle.front_stack_domain.specs.Reading as says
use Rattle.front_stack_domain.specs.Reading.{Copy, Required, Optional, Endless, onward, turns, walk}
use Rattle.front_stack_domain.specs.Views.{reading_of, stack_of, walk_of, possible}
use Rattle.front_stack_domain.specs.Walks.{ended, stepped, turned}
use Rattle.front_stack_loops.specs.Memory.{Meaning}
use Rattle.front_stack_loops.specs.Following.{IsForeseen, IsRun, copy_step, seen_stacks, times}
use Rattle.front_stack_loops.specs.Repeating.{CopiesLead, HasTrace, TurnsLead, copied_reading, copies_left, most_readings, turned_reading}
use Rattle.front_stack_loops.specs.Table.{IsMeaning, Inside, copies, node_reading}
use Rattle.front_stack_loops.specs.Waiting.{AreLow, AwaitsCopy, EndsWith, Fills, GoesOn, IsAwaitedLow, IsLow, IsNextLow, Lead, ReadsOn, Resumes, next_reading, effort_awaited, effort_next, effort_of, effort_times, effort_waiting}
use Rattle.front_stack_domain.specs.declared.reading.Reading.{Reading}
use Rattle.front_stack_domain.specs.declared.reading.Walk.{Walk}
use Rattle.front_stack_domain.specs.declared.stack.Stack.{Stack}
use Rattle.front_stack_loops.specs.declared.copies.Copies.{Copies}
use Rattle.front_stack_loops.specs.declared.copies.Turns.{Turns}
use Rattle.front_stack_loops.specs.declared.memory.Memory.{Memory}
use Rattle.front_stack_loops.specs.declared.table.NodeKind.{NodeKind}
use Rattle.front_stack_loops.specs.declared.table.Table.{Table}
use Rattle.front_stack_loops.specs.declared.waiting.Awaited.{Awaited}
use Rattle.front_stack_loops.specs.declared.waiting.Awaited.TheVariants as awaits
use Rattle.front_stack_loops.specs.declared.waiting.ReadTask.{ReadTask}
use Rattle.front_stack_loops.specs.declared.waiting.ReadTask.TheVariants as next
use Rattle.front_stack_loops.specs.declared.waiting.Waiting.{Waiting}
use Rattle.front_stack_loops.proofs.Awaiting.{all_effort, effort_push, lead_pop, lead_push, level_inside, low_pop, low_push}
use Rattle.front_stack_loops.proofs.Counts.{walk_both, walk_times}
use Rattle.front_stack_loops.proofs.Follow.{over_value, run_more, seen_more, step_value, turns_again, turns_none, turns_on}

-- what is known more tells what is known less
pub goes_on_by : (t : Table) (old new : Memory) (node : ℕ) (s : Stack) (P Q : Meaning → Type 0) (body m n : ℕ) (ws vs : List Waiting) (q : ReadTask) → ((meaning : Meaning) → P meaning → Q meaning) → m ≤ n
    → GoesOn t old new node s Q body m ws vs q → GoesOn t old new node s P body n ws vs q
goes_on_by t old new node s P Q body m n ws vs q f l g = record {
  right = λ meaning h i k whole lead. g.right meaning h i (f meaning k) whole lead;
  less = let a = g.less in let b = mul-le-mul_right (effort_of t body + 1) l in omega arith;
  low = g.low;
}

-- a repetition goes on with fewer copies
pub copies_go_on : (t : Table) (old new : Memory) (node : ℕ) (s : Stack) (P : Meaning → Type 0) (c d : Copies) (ws vs : List Waiting) (q : ReadTask) → ((meaning : Meaning) → P meaning → CopiesLead t meaning d (stack_of s) (meaning node (stack_of s)))
    → (d.body ≡ c.body) × (copies_left t d ≤ copies_left t c) → GoesOn t old new node s (λ meaning. CopiesLead t meaning d (stack_of s) (meaning node (stack_of s))) d.body (copies_left t d) ws vs q
    → GoesOn t old new node s P c.body (copies_left t c) ws vs q
copies_go_on t old new node s P c d ws vs q f l g =
    let Q : Meaning → Type 0 = λ meaning. CopiesLead t meaning d (stack_of s) (meaning node (stack_of s)) in
    goes_on_by t old new node s P Q c.body (copies_left t d) (copies_left t c) ws vs q f l.1 (subst (λ b. GoesOn t old new node s Q b (copies_left t d) ws vs q) l.0 g)

-- the reading of a repetition is there
pub goes_on_ended : (t : Table) (old new : Memory) (node : ℕ) (s : Stack) (P : Meaning → Type 0) (body n : ℕ) (ws : List Waiting) (q : ReadTask) (alone : Bool) (w : says.Walk)
    → ((meaning : Meaning) → P meaning → ended (stack_of s) alone w ≡ meaning node (stack_of s)) → EndsWith old new node s alone w q → GoesOn t old new node s P body n ws ws q
goes_on_ended t old new node s P body n ws q alone w f d = record {
  right = λ meaning h i k whole lead.
      let e : reading_of d.reading ≡ meaning node (stack_of s) = d.value ∙ f meaning k in
      (d.kept meaning i e, subst (λ p. Lead t meaning ws whole (next_reading meaning p)) (sym d.next) (subst (Lead t meaning ws whole) (sym e) lead));
  less = let e = ap (effort_next t) d.next in omega arith;
  low = λ l b a. (subst (IsNextLow t l) (sym d.next) tt, a);
}

-- what is repeated is read once more
goes_on_again : (t : Table) (m : Memory) (node : ℕ) (s : Stack) (P : Meaning → Type 0) (body n k : ℕ) (a : Awaited) (from : Stack) (ws vs : List Waiting) (q : ReadTask)
    → ((meaning : Meaning) → P meaning → Fills t meaning a (stack_of s) (meaning body (stack_of from)) (meaning node (stack_of s)))
    → effort_awaited t a ≡ 1 + effort_times t body k → n ≡ suc k → ((l : ℕ) → IsLow t l body → IsAwaitedLow t l a)
    → (let w : Waiting = record { node = node; stack = s; awaited = a } in vs ≡ ws ++ w ∷ []) → q ≡ next.Read body from → GoesOn t m m node s P body n ws vs q
goes_on_again t m node s P body n k a from ws vs q fills effort more low items is =
    let w : Waiting = record { node = node; stack = s; awaited = a } in record {
      right = λ meaning h i p whole lead. (
        i,
        subst (λ z. Lead t meaning z whole (next_reading meaning q)) (sym items)
            (subst (λ p. Lead t meaning (ws ++ w ∷ []) whole (next_reading meaning p)) (sym is) (lead_push t meaning ws w whole (meaning body (stack_of from)) lead (fills meaning p))),
      );
      less =
          let e = ap (effort_next t) is in
          let f = ap (effort_waiting t) items ∙ effort_push t ws w in
          let g : n * (effort_of t body + 1) ≡ suc k * (effort_of t body + 1) = ap (λ x. x * (effort_of t body + 1)) more in omega arith;
      low = λ l b h. (subst (IsNextLow t l) (sym is) b, subst (AreLow t l) (sym items) (low_push t l ws w h (low l b)));
    }

module _ (limit : ℕ) (step : AbstractStack → says.Reading) where
  walk_nowhere : (cs : List Copy) (w : says.Walk) → w.here ≡ None → walk limit step cs w ≡ w
  walk_nowhere [] w e = refl
  walk_nowhere (c ∷ cs) w e = ap (λ q. walk limit step cs (onward limit step c q w)) e ∙ walk_nowhere cs w e

  one_required : (n m o : ℕ) (e : Bool) (w : says.Walk) → n ≡ suc m → walk limit step (copies n o e) w ≡ walk limit step (copies m o e) (onward limit step Required w.here w)
  one_required n m o e w h = ap (λ k. walk limit step (copies k o e) w) h

  one_optional : (n o p : ℕ) (e : Bool) (w : says.Walk) → n ≡ 0 → o ≡ suc p → walk limit step (copies n o e) w ≡ walk limit step (copies n p e) (onward limit step Optional w.here w)
  one_optional n o p e w h i =
      ap (λ k. walk limit step (copies k o e) w) h ∙ (ap (λ k. walk limit step (copies 0 k e) w) i ∙ ap (λ k. walk limit step (copies k p e) (onward limit step Optional w.here w)) (sym h))

  none_left : (n o : ℕ) (e : Bool) (w : says.Walk) → n ≡ 0 → o ≡ 0 → e ≡ false → walk limit step (copies n o e) w ≡ w
  none_left n o e w h i j = ap (λ k. walk limit step (copies k o e) w) h ∙ (ap (λ k. walk limit step (copies 0 k e) w) i ∙ ap (λ k. walk limit step (copies 0 0 k) w) j)

  turns_left : (n o : ℕ) (e : Bool) (w : says.Walk) (a : AbstractStack) → n ≡ 0 → o ≡ 0 → e ≡ true → w.here ≡ Some a
      → walk limit step (copies n o e) w ≡ turns limit step limit [] (Some a) (record { here = None; failing = w.failing; still = w.still })
  turns_left n o e w a h i j k =
      ap (λ k. walk limit step (copies k o e) w) h ∙ (ap (λ k. walk limit step (copies 0 k e) w) i ∙ (ap (λ k. walk limit step (copies 0 0 k) w) j
      ∙ ap (λ q. onward limit step Endless q w) k))

  all_required : (n o : ℕ) (e : Bool) (w : says.Walk) → walk limit step (copies n o e) w ≡ walk limit step (copies 0 o e) (times n (λ v. onward limit step Required v.here v) w)
  all_required n o e w = walk_both limit step (replicate n Required) (copies 0 o e) w ∙ ap (walk limit step (copies 0 o e)) (walk_times limit step n Required w)

  all_optional : (n o : ℕ) (e : Bool) (w : says.Walk) → n ≡ 0 → walk limit step (copies n o e) w ≡ walk limit step (copies n 0 e) (times o (λ v. onward limit step Optional v.here v) w)
  all_optional n o e w h =
      ap (λ k. walk limit step (copies k o e) w) h ∙ (walk_both limit step (replicate o Optional) (copies 0 0 e) w ∙ (ap (walk limit step (copies 0 0 e)) (walk_times limit step o Optional w)
      ∙ ap (λ k. walk limit step (copies k 0 e) (times o (λ v. onward limit step Optional v.here v) w)) (sym h)))

-- where no copy of a kind was followed yet
no_trace : (t : Table) (meaning : Meaning) (c : Copies) (required : Bool) → c.trace.items ≡ [] → (required ≡ false → c.required ≡ 0) → HasTrace t meaning c required (walk_of c.walk)
no_trace t meaning c required none last = record {
  start = walk_of c.walk;
  run = subst (λ l. IsRun (copy_step t meaning c.body required) (walk_of c.walk) l (walk_of c.walk)) (sym none) (record { each = λ j v e. absurd (let h = slice_get_within [] j v e in omega arith); here = refl });
  last = last;
}

pub copies_begin : (t : Table) (meaning : Meaning) (c : Copies) (a : AbstractStack) (whole : says.Reading) → c.trace.items ≡ [] → copied_reading t meaning c a (walk_of c.walk) ≡ whole → CopiesLead t meaning c a whole
copies_begin t meaning c a whole none made = record {
  made = made;
  required = λ h. no_trace t meaning c true none (λ e. cc);
  optional = λ h. no_trace t meaning c false none (λ e. h);
}

-- a repetition waits for a copy
module _ (t : Table) (m : Memory) (node : ℕ) (s : Stack) (c d : Copies) (required : Bool) (from : Stack) (ws vs : List Waiting) (q : ReadTask) where
  copy_waits : ((meaning : Meaning) (e : Copies) → e ≡ record d { trace = e.trace } → e.trace.items ≡ d.trace.items ++ d.walk ∷ [] → CopiesLead t meaning c (stack_of s) (meaning node (stack_of s))
      → Fills t meaning (awaits.Copy (record d { trace = e.trace }) required from) (stack_of s) (meaning d.body (stack_of from)) (meaning node (stack_of s)))
      → copies_left t c ≡ suc (copies_left t d) → AwaitsCopy ws vs node s d required from q
      → GoesOn t m m node s (λ meaning. CopiesLead t meaning c (stack_of s) (meaning node (stack_of s))) d.body (copies_left t c) ws vs q
  copy_waits fills more put =
      let e = put.copies in
      goes_on_again t m node s (λ meaning. CopiesLead t meaning c (stack_of s) (meaning node (stack_of s))) d.body (copies_left t c) (copies_left t d) (awaits.Copy e required from) from ws vs q
      (λ meaning k. subst (λ x. Fills t meaning (awaits.Copy x required from) (stack_of s) (meaning d.body (stack_of from)) (meaning node (stack_of s))) (sym put.same) (fills meaning e put.same put.trace k))
      (ap (λ x. 1 + effort_times t x.body (copies_left t x)) put.same) more (λ l b. subst (λ x. IsLow t l x.body) (sym put.same) b) put.items put.next

module _ (t : Table) (m : Memory) (node : ℕ) (s : Stack) (c : Copies) (from : Stack) (ws vs : List Waiting) (q : ReadTask) where
  abbrev fewer_required : Copies
  fewer_required = record c { required = c.required - 1 }

  abbrev fewer_optional : Copies
  fewer_optional = record c { optional = c.optional - 1 }

  traced_on : (meaning : Meaning) (e : Copies) (required : Bool) (w : says.Walk) → e.body ≡ c.body → e.trace.items ≡ c.trace.items ++ c.walk ∷ [] → HasTrace t meaning c required (walk_of c.walk)
      → (required ≡ false → e.required ≡ 0) → w ≡ copy_step t meaning c.body required (walk_of c.walk) → HasTrace t meaning e required w
  traced_on meaning e required w same items h last made = record {
    start = h.start;
    run = subst (λ b. IsRun (copy_step t meaning b required) h.start e.trace.items w) (sym same)
        (subst (λ l. IsRun (copy_step t meaning c.body required) h.start l w) (sym items) (run_more (copy_step t meaning c.body required) h.start c.trace.items c.walk w h.run made));
    last = last;
  }

  pub required_waits : c.walk.here ≡ Some from → 0 < c.required → AwaitsCopy ws vs node s (record c { required = c.required - 1 }) true from q
      → GoesOn t m m node s (λ meaning. CopiesLead t meaning c (stack_of s) (meaning node (stack_of s))) c.body (copies_left t c) ws vs q
  required_waits here some put = copy_waits t m node s c fewer_required true from ws vs q fills (omega arith) put
    where
      fills : (meaning : Meaning) (e : Copies) → e ≡ record c { required = c.required - 1; trace = e.trace } → e.trace.items ≡ c.trace.items ++ c.walk ∷ [] → CopiesLead t meaning c (stack_of s) (meaning node (stack_of s))
          → Fills t meaning (awaits.Copy (record c { required = c.required - 1; trace = e.trace }) true from) (stack_of s) (meaning c.body (stack_of from)) (meaning node (stack_of s))
      fills meaning e same items k =
          let step : stepped true (stack_of from) (meaning c.body (stack_of from)) (walk_of c.walk) ≡ copy_step t meaning c.body true (walk_of c.walk) = step_value t meaning c.body true c.walk from (meaning c.body (stack_of from)) here refl in
          let less = one_required t.limit (meaning c.body) c.required (c.required - 1) c.optional c.endless (walk_of c.walk) (omega arith) in record {
            made = ap (λ v. copied_reading t meaning (record c { required = c.required - 1; trace = e.trace }) (stack_of s) v) step ∙ (sym (ap (ended (stack_of s) c.alone) less) ∙ k.made);
            traced = traced_on meaning (record c { required = c.required - 1; trace = e.trace }) true _ refl items (k.required some) (λ f. cc) step;
          }

  pub optional_waits : c.walk.here ≡ Some from → c.required ≡ 0 → 0 < c.optional → AwaitsCopy ws vs node s (record c { optional = c.optional - 1 }) false from q
      → GoesOn t m m node s (λ meaning. CopiesLead t meaning c (stack_of s) (meaning node (stack_of s))) c.body (copies_left t c) ws vs q
  optional_waits here none some put = copy_waits t m node s c fewer_optional false from ws vs q fills (omega arith) put
    where
      fills : (meaning : Meaning) (e : Copies) → e ≡ record c { optional = c.optional - 1; trace = e.trace } → e.trace.items ≡ c.trace.items ++ c.walk ∷ [] → CopiesLead t meaning c (stack_of s) (meaning node (stack_of s))
          → Fills t meaning (awaits.Copy (record c { optional = c.optional - 1; trace = e.trace }) false from) (stack_of s) (meaning c.body (stack_of from)) (meaning node (stack_of s))
      fills meaning e same items k =
          let step : stepped false (stack_of from) (meaning c.body (stack_of from)) (walk_of c.walk) ≡ copy_step t meaning c.body false (walk_of c.walk) = step_value t meaning c.body false c.walk from (meaning c.body (stack_of from)) here refl in
          let less = one_optional t.limit (meaning c.body) c.required c.optional (c.optional - 1) c.endless (walk_of c.walk) none (omega arith) in record {
            made = ap (λ v. copied_reading t meaning (record c { optional = c.optional - 1; trace = e.trace }) (stack_of s) v) step ∙ (sym (ap (ended (stack_of s) c.alone) less) ∙ k.made);
            traced = traced_on meaning (record c { optional = c.optional - 1; trace = e.trace }) false _ refl items (k.optional none) (λ f. none) step;
          }

-- a repetition whose copies are not reached, or are done
pub copies_nowhere : (t : Table) (meaning : Meaning) (c : Copies) (a : AbstractStack) (whole : says.Reading) → c.walk.here ≡ None → CopiesLead t meaning c a whole → ended a c.alone (walk_of c.walk) ≡ whole
copies_nowhere t meaning c a whole none k = sym (ap (ended a c.alone) (walk_nowhere t.limit (meaning c.body) (copies c.required c.optional c.endless) (walk_of c.walk) (ap possible none))) ∙ k.made

pub copies_done : (t : Table) (meaning : Meaning) (c : Copies) (a : AbstractStack) (whole : says.Reading) → c.required ≡ 0 → c.optional ≡ 0 → not c.endless ≡ true → CopiesLead t meaning c a whole → ended a c.alone (walk_of c.walk) ≡ whole
copies_done t meaning c a whole r o e k = sym (ap (ended a c.alone) (none_left t.limit (meaning c.body) c.required c.optional c.endless (walk_of c.walk) r o (not-true c.endless e))) ∙ k.made

pub limit_left : (t : Table) (c : Copies) → not c.endless ≡ false → t.limit ≤ copies_left t c
limit_left t c h = let e : (if c.endless then t.limit else 0) ≡ t.limit = ap (λ b. if b then t.limit else 0) (not-false c.endless h) in omega arith

-- turns without end come next
pub turns_begin : (t : Table) (meaning : Meaning) (c : Copies) (u : Turns) (from : Stack) (a : AbstractStack) (whole : says.Reading) → c.required ≡ 0 → c.optional ≡ 0 → not c.endless ≡ false → c.walk.here ≡ Some from
    → u.body ≡ c.body → u.alone ≡ c.alone → u.left ≡ t.limit → u.seen.items ≡ [] → (let v : says.Walk = record { here = None; failing = c.walk.failing; still = c.walk.still } in walk_of u.walk ≡ v)
    → CopiesLead t meaning c a whole → TurnsLead t meaning u a (Some (stack_of from)) whole
turns_begin t meaning c u from a whole r o e here body alone left seen same k =
    let v : says.Walk = record { here = None; failing = c.walk.failing; still = c.walk.still } in
    ap (λ b. ended a b (turns t.limit (meaning u.body) u.left (reverse (seen_stacks u.seen.items)) (Some (stack_of from)) (walk_of u.walk))) alone
    ∙ (ap (λ b. ended a c.alone (turns t.limit (meaning b) u.left (reverse (seen_stacks u.seen.items)) (Some (stack_of from)) (walk_of u.walk))) body
    ∙ (ap (λ n. ended a c.alone (turns t.limit (meaning c.body) n (reverse (seen_stacks u.seen.items)) (Some (stack_of from)) (walk_of u.walk))) left
    ∙ (ap (λ l. ended a c.alone (turns t.limit (meaning c.body) t.limit (reverse (seen_stacks l)) (Some (stack_of from)) (walk_of u.walk))) seen
    ∙ (ap (λ w. ended a c.alone (turns t.limit (meaning c.body) t.limit [] (Some (stack_of from)) w)) same
    ∙ (sym (ap (ended a c.alone) (turns_left t.limit (meaning c.body) c.required c.optional c.endless (walk_of c.walk) (stack_of from) r o (not-false c.endless e) (ap possible here))) ∙ k.made)))))

pub turns_over : (t : Table) (meaning : Meaning) (u : Turns) (a s : AbstractStack) (q : Option AbstractStack) (whole : says.Reading) → u.left ≡ 0 → s ≡ unknown → TurnsLead t meaning u a q whole
    → (let v : says.Walk = record { here = Some s; failing = u.walk.failing; still = false } in ended a u.alone v) ≡ whole
turns_over t meaning u a s q whole none is k = ap (ended a u.alone) (over_value t.limit (meaning u.body) u.left (reverse (seen_stacks u.seen.items)) q (walk_of u.walk) s none is) ∙ k

pub turns_end : (t : Table) (meaning : Meaning) (u : Turns) (a : AbstractStack) (q : Option AbstractStack) (whole : says.Reading) → 0 < u.left → q ≡ None → TurnsLead t meaning u a q whole → ended a u.alone (walk_of u.walk) ≡ whole
turns_end t meaning u a q whole some none k =
    sym (ap (ended a u.alone) (ap (λ p. turns t.limit (meaning u.body) u.left (reverse (seen_stacks u.seen.items)) p (walk_of u.walk)) none ∙ turns_none t.limit (meaning u.body) u.left (reverse (seen_stacks u.seen.items)) (walk_of u.walk) some)) ∙ k

pub turns_come_again : (t : Table) (meaning : Meaning) (u : Turns) (a b : AbstractStack) (q : Option AbstractStack) (whole : says.Reading) → 0 < u.left → q ≡ Some b → is_among (reverse (seen_stacks u.seen.items)) b ≡ true
    → TurnsLead t meaning u a q whole → ended a u.alone (walk_of u.walk) ≡ whole
turns_come_again t meaning u a b q whole some here again k =
    sym (ap (ended a u.alone) (ap (λ p. turns t.limit (meaning u.body) u.left (reverse (seen_stacks u.seen.items)) p (walk_of u.walk)) here ∙ turns_again t.limit (meaning u.body) u.left (reverse (seen_stacks u.seen.items)) b (walk_of u.walk) some again)) ∙ k

-- a repetition waits for a turn
pub turn_waits : (t : Table) (m : Memory) (node : ℕ) (s : Stack) (u v : Turns) (from : Stack) (p : Option AbstractStack) (ws vs : List Waiting) (q : ReadTask) → p ≡ Some (stack_of from) → 0 < u.left
    → is_among (reverse (seen_stacks u.seen.items)) (stack_of from) ≡ false → v ≡ record u { left = u.left - 1; seen = v.seen } → v.seen.items ≡ u.seen.items ++ from ∷ []
    → (let w : Waiting = record { node = node; stack = s; awaited = awaits.Turn v from } in vs ≡ ws ++ w ∷ []) → q ≡ next.Read u.body from
    → GoesOn t m m node s (λ meaning. TurnsLead t meaning u (stack_of s) p (meaning node (stack_of s))) u.body u.left ws vs q
turn_waits t m node s u v from p ws vs q here some fresh same seen items is =
    goes_on_again t m node s (λ meaning. TurnsLead t meaning u (stack_of s) p (meaning node (stack_of s))) u.body u.left (u.left - 1) (awaits.Turn v from) from ws vs q
    (λ meaning k. subst (λ x. Fills t meaning (awaits.Turn x from) (stack_of s) (meaning u.body (stack_of from)) (meaning node (stack_of s))) (sym same) (fills meaning k))
    (ap (λ x. 1 + effort_times t x.body x.left) same) (omega arith) (λ l b. subst (λ x. IsLow t l x.body) (sym same) b) items is
  where
    fills : (meaning : Meaning) → TurnsLead t meaning u (stack_of s) p (meaning node (stack_of s))
        → Fills t meaning (awaits.Turn (record u { left = u.left - 1; seen = v.seen }) from) (stack_of s) (meaning u.body (stack_of from)) (meaning node (stack_of s))
    fills meaning k =
        let a = stack_of from in
        let on = turns_on t.limit (meaning u.body) (u.left - 1) u.left (reverse (seen_stacks u.seen.items)) a (walk_of u.walk) (omega arith) fresh in
        let more : reverse (seen_stacks v.seen.items) ≡ a ∷ reverse (seen_stacks u.seen.items) = ap (λ l. reverse (seen_stacks l)) seen ∙ seen_more u.seen.items from in record {
          made = ap (λ l. ended (stack_of s) u.alone (turns t.limit (meaning u.body) (u.left - 1) l (meaning u.body a).ok (turned a (meaning u.body a) (walk_of u.walk)))) more
              ∙ (sym (ap (ended (stack_of s) u.alone) on) ∙ (sym (ap (λ p. turned_reading t meaning u (stack_of s) p (walk_of u.walk)) here) ∙ k));
          traced = tt;
        }

-- a repetition goes on behind a copy, and none of those that are left is foreseen
pub copy_leads : (t : Table) (meaning : Meaning) (c : Copies) (required : Bool) (from : Stack) (w : Walk) (r : says.Reading) (a : AbstractStack) (whole : says.Reading) (left : ℕ)
    → walk_of w ≡ stepped required (stack_of from) r (walk_of c.walk) → left ≡ (if required then c.required else c.optional) → 0 < left
    → Fills t meaning (awaits.Copy c required from) a r whole → CopiesLead t meaning (record c { walk = w }) a whole
copy_leads t meaning c true from w r a whole left made is some f = record {
  made = ap (copied_reading t meaning c a) made ∙ f.made;
  required = λ h. subst (HasTrace t meaning (record c { walk = w }) true) (sym made) (record { start = f.traced.start; run = f.traced.run; last = λ e. cc });
  optional = λ h. absurd (omega arith);
}
copy_leads t meaning c false from w r a whole left made is some f = record {
  made = ap (copied_reading t meaning c a) made ∙ f.made;
  required = λ h. absurd (let n = f.traced.last refl in omega arith);
  optional = λ h. subst (HasTrace t meaning (record c { walk = w }) false) (sym made) (record { start = f.traced.start; run = f.traced.run; last = λ e. h });
}

-- or all of a kind are
required_foreseen : (t : Table) (meaning : Meaning) (c d e : Copies) (from : Stack) (w v : Walk) (r : says.Reading) (a : AbstractStack) (whole : says.Reading)
    → walk_of w ≡ stepped true (stack_of from) r (walk_of c.walk) → IsForeseen c.trace.items (walk_of w) c.required v → e ≡ record c { walk = v; trace = e.trace } → d ≡ record e { required = 0 } → e.trace.items ≡ []
    → Fills t meaning (awaits.Copy c true from) a r whole → CopiesLead t meaning d a whole
required_foreseen t meaning c d e from w v r a whole made known behind past none f = copies_begin t meaning d a whole (ap (λ x. x.trace.items) past ∙ none) (ap (λ x. copied_reading t meaning x a (walk_of x.walk)) same ∙ (ap (copied_reading t meaning (record c { required = 0 }) a) value
    ∙ (sym (ap (ended a c.alone) (all_required t.limit (meaning c.body) c.required c.optional c.endless (walk_of w))) ∙ (ap (copied_reading t meaning c a) made ∙ f.made))))
  where
    same : d ≡ record c { required = 0; walk = v; trace = e.trace }
    same = past ∙ ap (λ (x : Copies). record x { required = 0 }) behind

    value : walk_of v ≡ times c.required (copy_step t meaning c.body true) (walk_of w)
    value = known.value (copy_step t meaning c.body true) f.traced.start (subst (IsRun (copy_step t meaning c.body true) f.traced.start c.trace.items) (sym made) f.traced.run)

optional_foreseen : (t : Table) (meaning : Meaning) (c d e : Copies) (from : Stack) (w v : Walk) (r : says.Reading) (a : AbstractStack) (whole : says.Reading)
    → walk_of w ≡ stepped false (stack_of from) r (walk_of c.walk) → IsForeseen c.trace.items (walk_of w) c.optional v → e ≡ record c { walk = v; trace = e.trace } → d ≡ record e { optional = 0 } → e.trace.items ≡ []
    → Fills t meaning (awaits.Copy c false from) a r whole → CopiesLead t meaning d a whole
optional_foreseen t meaning c d e from w v r a whole made known behind past none f = copies_begin t meaning d a whole (ap (λ x. x.trace.items) past ∙ none) (ap (λ x. copied_reading t meaning x a (walk_of x.walk)) same ∙ (ap (copied_reading t meaning (record c { optional = 0 }) a) value
    ∙ (sym (ap (ended a c.alone) (all_optional t.limit (meaning c.body) c.required c.optional c.endless (walk_of w) (f.traced.last refl))) ∙ (ap (copied_reading t meaning c a) made ∙ f.made))))
  where
    same : d ≡ record c { optional = 0; walk = v; trace = e.trace }
    same = past ∙ ap (λ (x : Copies). record x { optional = 0 }) behind

    value : walk_of v ≡ times c.optional (copy_step t meaning c.body false) (walk_of w)
    value = known.value (copy_step t meaning c.body false) f.traced.start (subst (IsRun (copy_step t meaning c.body false) f.traced.start c.trace.items) (sym made) f.traced.run)

pub kind_foreseen : (t : Table) (meaning : Meaning) (c d e : Copies) (required : Bool) (from : Stack) (w v : Walk) (r : says.Reading) (a : AbstractStack) (whole : says.Reading) (left : ℕ)
    → walk_of w ≡ stepped required (stack_of from) r (walk_of c.walk) → left ≡ (if required then c.required else c.optional) → IsForeseen c.trace.items (walk_of w) left v
    → e ≡ record c { walk = v; trace = e.trace } → d ≡ (if required then record e { required = 0 } else record e { optional = 0 }) → e.trace.items ≡ []
    → Fills t meaning (awaits.Copy c required from) a r whole → CopiesLead t meaning d a whole
kind_foreseen t meaning c d e true from w v r a whole left made is known behind past none f =
    required_foreseen t meaning c d e from w v r a whole made (subst (λ n. IsForeseen c.trace.items (walk_of w) n v) is known) behind past none f
kind_foreseen t meaning c d e false from w v r a whole left made is known behind past none f =
    optional_foreseen t meaning c d e from w v r a whole made (subst (λ n. IsForeseen c.trace.items (walk_of w) n v) is known) behind past none f

pub fewer_left : (t : Table) (c d e : Copies) (required : Bool) (v : Walk) → e ≡ record c { walk = v; trace = e.trace } → d ≡ (if required then record e { required = 0 } else record e { optional = 0 }) → (d.body ≡ c.body) × (copies_left t d ≤ copies_left t c)
fewer_left t c d e true v behind past =
    let x = ap (copies_left t) behind in
    let y = ap (copies_left t) past in
    let z : e.required ≡ c.required = ap (λ (k : Copies). k.required) behind in
    (ap (λ (k : Copies). k.body) past ∙ ap (λ (k : Copies). k.body) behind, omega arith)
fewer_left t c d e false v behind past =
    let x = ap (copies_left t) behind in
    let y = ap (copies_left t) past in
    let z : e.optional ≡ c.optional = ap (λ (k : Copies). k.optional) behind in
    (ap (λ (k : Copies). k.body) past ∙ ap (λ (k : Copies). k.body) behind, omega arith)

-- the reading is there that a repetition waited for
pub resumed : (t : Table) (old new : Memory) (ws vs : List Waiting) (w : Waiting) (r : Reading) (a : Awaited) (body n : ℕ) (q : ReadTask) → w.awaited ≡ a → effort_awaited t a ≡ 1 + effort_times t body n
    → ((l : ℕ) → IsAwaitedLow t l a → IsLow t l body) → Resumes t old new w.node w.stack a r body n ws vs q → ReadsOn t old new (next.Done r) (ws ++ w ∷ []) vs q
resumed t old new ws vs w r a body n q is effort low g = record {
  right = λ meaning h i whole lead.
      let z = lead_pop t meaning ws w whole (reading_of r) lead in
      g.right meaning h i (subst (λ x. Fills t meaning x (stack_of w.stack) (reading_of r) (meaning w.node (stack_of w.stack))) is z.1) whole z.0;
  less = let x = g.less in let f = effort_push t ws w in let e = ap (effort_awaited t) is ∙ effort in omega arith;
  low = λ l p b. let z = low_pop t l ws w b in g.low l (low l (subst (IsAwaitedLow t l) is z.1)) z.0;
}

-- a repetition begins
pub repeat_begun : (t : Table) (old new : Memory) (node : ℕ) (s : Stack) (k l : NodeKind) → ((meaning : Meaning) → IsMeaning t meaning → (a : AbstractStack) → meaning node a ≡ node_reading t meaning k a) → k ≡ l
    → (body : ℕ) (c : Copies) (ws vs : List Waiting) (q : ReadTask) → Inside t node body → c.body ≡ body → c.trace.items ≡ [] → copies_left t c ≤ most_readings t
    → ((meaning : Meaning) → copied_reading t meaning c (stack_of s) (walk_of c.walk) ≡ node_reading t meaning l (stack_of s))
    → GoesOn t old new node s (λ meaning. CopiesLead t meaning c (stack_of s) (meaning node (stack_of s))) c.body (copies_left t c) ws vs q → ReadsOn t old new (next.Read node s) ws vs q
repeat_begun t old new node s k l means is body c ws vs q inside same none few all g =
    let below : Inside t node c.body = subst (Inside t node) (sym same) inside in
    let level_below = level_inside t node c.body below in record {
      right = λ meaning h i whole lead. g.right meaning h i (copies_begin t meaning c (stack_of s) (meaning node (stack_of s)) none (all meaning ∙ sym (means meaning h (stack_of s) ∙ ap (λ k. node_reading t meaning k (stack_of s)) is))) whole lead;
      less = let x = g.less in let y = all_effort t node c.body (copies_left t c) level_below few in omega arith;
      low = λ b p a. g.low b (record { within = below.within; low = (let z = p.low in omega arith) }) a;
    }
