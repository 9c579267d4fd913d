-- The stacks from which copies start.
use Rattle.std.proofs.Common.{◌≡◌, ℕ, zero, suc, ◌<◌, List, [], ◌∷◌, ◌++◌, replicate, Option, Some, None, Bool, true, false, if◌then◌else◌, ◌⊎◌, inl, inr, slice_get, refl, sym, ◌∙◌, ap, subst, arith, Result, Ok, Err, OnOk}
use Rattle.front_stack_domain.specs.Stack.{AbstractStack, In}
use Rattle.front_stack_domain.specs.Reading as says
use Rattle.front_stack_domain.specs.Reading.{Copy, Required, Optional, Endless, onward}
use Rattle.front_stack_domain.specs.Reported.{turn_starts, starts}
use Rattle.front_stack_loops.specs.Table.{IsMeaning, copies}
use Rattle.front_stack_loops.specs.Memory.{Meaning, IsRight}
use Rattle.front_stack_loops.specs.Following.{times, copy_step, IsTrace, Follows, Turned}
use Rattle.front_stack_loops.specs.Visiting.{AddsAll, AddsEach, AddsWhere, IsStartOf}
use Rattle.front_stack_domain.specs.Views.{stack_of, walk_of, possible}
use Rattle.front_stack_domain.specs.declared.stack.Stack.{Stack}
use Rattle.front_stack_domain.specs.declared.reading.Walk.{Walk}
use Rattle.front_stack_domain.proofs.Routes.{in_split}
use Rattle.front_stack_loops.specs.declared.table.Table.{Table}
use Rattle.front_stack_loops.specs.declared.memory.Memory.{Memory}
use Rattle.front_stack_loops.proofs.Counts.{one_on, stuck}
use Rattle.front_stack_loops.proofs.Visited.{in_left, in_right}

abbrev listed : Option AbstractStack → List AbstractStack
listed None = []
listed (Some a) = a ∷ []

-- where the walks stand from which n copies start
abbrev pub heres : ℕ → (says.Walk → says.Walk) → says.Walk → List AbstractStack
heres zero f w = []
heres (suc n) f w = listed w.here ++ heres n f (f w)

in_listed : (q : Option AbstractStack) (b : AbstractStack) → In b (listed q) → q ≡ Some b
in_listed None b h = absurd h
in_listed (Some a) b (inl e) = ap Some (sym e)
in_listed (Some a) b (inr i) = absurd i

listed_in : (q : Option AbstractStack) (b : AbstractStack) → q ≡ Some b → In b (listed q)
listed_in None b e = cc
listed_in (Some a) b e = inl (let h : b ≡ a = cc in h)

in_heres : (n : ℕ) (f : says.Walk → says.Walk) (w : says.Walk) (b : AbstractStack) → In b (heres n f w) → (i : ℕ) × (i < n) × ((times i f w).here ≡ Some b)
in_heres zero f w b h = absurd h
in_heres (suc n) f w b h = elim (in_split b (listed w.here) (heres n f (f w)) h) [
  | inl i ↦ (0, omega arith, in_listed w.here b i)
  | inr i ↦ let r = in_heres n f (f w) b i in (suc r.0, (let l : r.0 < n = r.1 in omega arith), r.2)
]

heres_in : (n : ℕ) (f : says.Walk → says.Walk) (w : says.Walk) (b : AbstractStack) (i : ℕ) → i < n → (times i f w).here ≡ Some b → In b (heres n f w)
heres_in zero f w b i l e = absurd (omega arith)
heres_in (suc n) f w b zero l e = in_left b (listed w.here) (heres n f (f w)) (listed_in w.here b e)
heres_in (suc n) f w b (suc i) l e = in_right b (listed w.here) (heres n f (f w)) (heres_in n f (f w) b i (omega arith) e)

module _ (limit : ℕ) (step : AbstractStack → says.Reading) where
  none_starts : (cs : List Copy) → starts limit step cs None ≡ []
  none_starts [] = refl
  none_starts (c ∷ cs) = refl

  heres_none : (n : ℕ) (c : Copy) (w : says.Walk) → w.here ≡ None → heres n (one_on limit step c) w ≡ []
  heres_none zero c w e = refl
  heres_none (suc n) c w e =
      let f : says.Walk → says.Walk = one_on limit step c in
      let s : f w ≡ w = ap (λ q. onward limit step c q w) e in
      ap (λ q. listed q ++ heres n f (f w)) e ∙ (ap (heres n f) s ∙ heres_none n c w e)

  required_starts : (n : ℕ) (ds : List Copy) (w : says.Walk) → starts limit step (replicate n Required ++ ds) w.here ≡ heres n (one_on limit step Required) w ++ starts limit step ds (times n (one_on limit step Required) w).here
  required_starts zero ds w = refl
  required_starts (suc n) ds w = go w.here refl (λ v. required_starts n ds v)
    where
      go : (q : Option AbstractStack) → w.here ≡ q → ((v : says.Walk) → starts limit step (replicate n Required ++ ds) v.here ≡ heres n (one_on limit step Required) v ++ starts limit step ds (times n (one_on limit step Required) v).here)
          → starts limit step (replicate (suc n) Required ++ ds) q ≡ (listed q ++ heres n (one_on limit step Required) (onward limit step Required q w)) ++ starts limit step ds (times n (one_on limit step Required) (onward limit step Required q w)).here
      go None e f = sym (ap (λ l. l ++ starts limit step ds (times n (one_on limit step Required) w).here) (heres_none n Required w e) ∙ (ap (starts limit step ds) (stuck limit step Required n w e) ∙ none_starts ds))
      go (Some a) e f = ap (λ l. a ∷ l) (f (onward limit step Required (Some a) w))

  optional_starts : (n : ℕ) (ds : List Copy) (w : says.Walk) → starts limit step (replicate n Optional ++ ds) w.here ≡ heres n (one_on limit step Optional) w ++ starts limit step ds (times n (one_on limit step Optional) w).here
  optional_starts zero ds w = refl
  optional_starts (suc n) ds w = go w.here refl (λ v. optional_starts n ds v)
    where
      go : (q : Option AbstractStack) → w.here ≡ q → ((v : says.Walk) → starts limit step (replicate n Optional ++ ds) v.here ≡ heres n (one_on limit step Optional) v ++ starts limit step ds (times n (one_on limit step Optional) v).here)
          → starts limit step (replicate (suc n) Optional ++ ds) q ≡ (listed q ++ heres n (one_on limit step Optional) (onward limit step Optional q w)) ++ starts limit step ds (times n (one_on limit step Optional) (onward limit step Optional q w)).here
      go None e f = sym (ap (λ l. l ++ starts limit step ds (times n (one_on limit step Optional) w).here) (heres_none n Optional w e) ∙ (ap (starts limit step ds) (stuck limit step Optional n w e) ∙ none_starts ds))
      go (Some a) e f = ap (λ l. a ∷ l) (f (onward limit step Optional (Some a) w))

  unfoldable pub last_starts : Bool → Option AbstractStack → List AbstractStack
  last_starts true q = turn_starts step limit [] q
  last_starts false q = []

  none_turns : (k : ℕ) → turn_starts step k [] None ≡ []
  unfolding turn_starts
  none_turns zero = refl
  none_turns (suc k) = refl

  ends : (e : Bool) (q : Option AbstractStack) → starts limit step (if e then Endless ∷ [] else []) q ≡ last_starts e q
  unfolding last_starts
  ends true None = sym (none_turns limit)
  ends true (Some a) = refl
  ends false q = refl

  pub all_starts : (r o : ℕ) (e : Bool) (w : says.Walk) → starts limit step (copies r o e) w.here
      ≡ heres r (one_on limit step Required) w ++ (heres o (one_on limit step Optional) (times r (one_on limit step Required) w)
      ++ last_starts e (times o (one_on limit step Optional) (times r (one_on limit step Required) w)).here)
  all_starts r o e w =
      let v = times r (one_on limit step Required) w in
      let last = if e then Endless ∷ [] else [] in
      required_starts r (replicate o Optional ++ last) w
      ∙ ap (λ l. heres r (one_on limit step Required) w ++ l) (optional_starts o last v ∙ ap (λ l. heres o (one_on limit step Optional) v ++ l) (ends e (times o (one_on limit step Optional) v).here))

module _ (f : says.Walk → says.Walk) (n : ℕ) (w : says.Walk) (items : List Walk) (trace : IsTrace f n w items) where
  trace_sound : (j : ℕ) (u : Walk) (b : AbstractStack) → slice_get items j ≡ Some u → possible u.here ≡ Some b → In b (heres n f w)
  trace_sound j u b g e = let r = trace.each j u g in heres_in n f w b j r.1 (sym (ap (λ w. w.here) r.0) ∙ e)

  trace_complete : (b : AbstractStack) → In b (heres n f w) → (j : ℕ) × (u : Walk) × (slice_get items j ≡ Some u) × (possible u.here ≡ Some b)
  trace_complete b i = let r = in_heres n f w b i in let c = trace.all r.0 r.1 in (c.0, c.1.walk, c.1.at, ap (λ w. w.here) c.1.same ∙ r.2)

module _ (t : Table) (body r o : ℕ) (a b c : Memory) (start first second : Walk) (one two : List Walk) (none some more : List Stack)
    (f : Follows t a b body true r (walk_of start) one first) (g : AddsAll none some one)
    (h : Follows t b c body false o (walk_of first) two second) (k : AddsAll some more two) where
  abbrev Copied : Meaning → AbstractStack → Type 0
  Copied meaning x = In x (heres r (copy_step t meaning body true) (walk_of start)) ⊎ In x (heres o (copy_step t meaning body false) (walk_of first))

  copies_added : AddsWhere t a c Copied none more
  copies_added = record {
    kept = λ meaning m i. h.kept meaning m (f.kept meaning m i);
    front = λ x i. k.kept x (g.kept x i);
    sound = λ meaning m i x j. elim (k.others x j) [
      | inl p ↦ elim (g.others x p) [ inl q ↦ inl q | inr q ↦ inr (inl (trace_sound (copy_step t meaning body true) r (walk_of start) one (f.trace meaning m i) q.0 q.1 x q.2 q.3)) ]
      | inr p ↦ inr (inr (trace_sound (copy_step t meaning body false) o (walk_of first) two (h.trace meaning m (f.kept meaning m i)) p.0 p.1 x p.2 p.3))
    ];
    complete = λ meaning m i x p. elim p [
      | inl q ↦ let z = trace_complete (copy_step t meaning body true) r (walk_of start) one (f.trace meaning m i) x q in k.kept x (g.added z.0 z.1 x z.2 z.3)
      | inr q ↦ let z = trace_complete (copy_step t meaning body false) o (walk_of first) two (h.trace meaning m (f.kept meaning m i)) x q in k.added z.0 z.1 x z.2 z.3
    ];
  }

  abbrev Whole : (e : Bool) → Stack → Meaning → AbstractStack → Type 0
  Whole e s meaning x = IsStartOf t.limit (meaning body) (copies r o e) (stack_of s) x

  whole_starts : (e : Bool) (s : Stack) → start.here ≡ Some s → (meaning : Meaning) → IsMeaning t meaning → IsRight meaning a → starts t.limit (meaning body) (copies r o e) (Some (stack_of s))
      ≡ heres r (copy_step t meaning body true) (walk_of start) ++ (heres o (copy_step t meaning body false) (walk_of first) ++ last_starts t.limit (meaning body) e (possible second.here))
  whole_starts e s at meaning m i =
      let v = f.value meaning m i in
      let u = h.value meaning m (f.kept meaning m i) in
      let x : (walk_of second).here ≡ (times o (copy_step t meaning body false) (times r (copy_step t meaning body true) (walk_of start))).here = ap (λ w. w.here) (u ∙ ap (times o (copy_step t meaning body false)) v) in
      ap (starts t.limit (meaning body) (copies r o e)) (sym (ap possible at)) ∙ (all_starts t.limit (meaning body) r o e (walk_of start)
      ∙ ap (λ l. heres r (copy_step t meaning body true) (walk_of start) ++ l)
      (ap (λ w. heres o (copy_step t meaning body false) w ++ last_starts t.limit (meaning body) e (times o (copy_step t meaning body false) (times r (copy_step t meaning body true) (walk_of start))).here) (sym v)
      ∙ ap (λ q. heres o (copy_step t meaning body false) (walk_of first) ++ last_starts t.limit (meaning body) e q) (sym x)))

  pub copies_alone : (e : Bool) (s : Stack) → start.here ≡ Some s → e ≡ false → AddsWhere t a c (Whole e s) none more
  unfolding last_starts
  copies_alone true s at h = cc
  copies_alone false s at h = let z = copies_added in record {
    kept = z.kept;
    front = z.front;
    sound = λ meaning m i x j. elim (z.sound meaning m i x j) [
      | inl p ↦ inl p
      | inr p ↦ inr (subst (In x) (sym (whole_starts false s at meaning m i)) (put meaning x p))
    ];
    complete = λ meaning m i x p. z.complete meaning m i x (take meaning x (subst (In x) (whole_starts false s at meaning m i) p));
  }
    where
      put : (meaning : Meaning) (x : AbstractStack) → Copied meaning x → In x (heres r (copy_step t meaning body true) (walk_of start) ++ (heres o (copy_step t meaning body false) (walk_of first) ++ []))
      put meaning x (inl p) = in_left x _ (heres o (copy_step t meaning body false) (walk_of first) ++ []) p
      put meaning x (inr p) = in_right x (heres r (copy_step t meaning body true) (walk_of start)) _ (in_left x _ [] p)

      take : (meaning : Meaning) (x : AbstractStack) → In x (heres r (copy_step t meaning body true) (walk_of start) ++ (heres o (copy_step t meaning body false) (walk_of first) ++ [])) → Copied meaning x
      take meaning x p = elim (in_split x (heres r (copy_step t meaning body true) (walk_of start)) _ p) [
        | inl q ↦ inl q
        | inr q ↦ elim (in_split x (heres o (copy_step t meaning body false) (walk_of first)) [] q) [ inl y ↦ inr y | inr y ↦ absurd y ]
      ]

  pub copies_and_turns : (e : Bool) (s : Stack) (d : Memory) (seen : List Stack) (third : Walk) (most : List Stack) → start.here ≡ Some s → e ≡ true → Turned t c d body (walk_of second) seen third → AddsEach more most seen
      → AddsWhere t a d (Whole e s) none most
  unfolding last_starts
  copies_and_turns false s d seen third most at h n l = cc
  copies_and_turns true s d seen third most at h n l = let z = copies_added in record {
    kept = λ meaning m i. n.kept meaning m (z.kept meaning m i);
    front = λ x i. l.kept x (z.front x i);
    sound = λ meaning m i x j. elim (l.others x j) [
      | inl p ↦ elim (z.sound meaning m i x p) [ inl q ↦ inl q | inr q ↦ inr (subst (In x) (sym (whole_starts true s at meaning m i)) (put meaning x (inl q))) ]
      | inr p ↦ inr (subst (In x) (sym (whole_starts true s at meaning m i)) (put meaning x (inr (subst (In x) (n.starts meaning m (z.kept meaning m i)) p))))
    ];
    complete = λ meaning m i x p. elim (take meaning x (subst (In x) (whole_starts true s at meaning m i) p)) [
      | inl q ↦ l.kept x (z.complete meaning m i x q)
      | inr q ↦ l.added x (subst (In x) (sym (n.starts meaning m (z.kept meaning m i))) q)
    ];
  }
    where
      put : (meaning : Meaning) (x : AbstractStack) → Copied meaning x ⊎ In x (turn_starts (meaning body) t.limit [] (possible second.here))
          → In x (heres r (copy_step t meaning body true) (walk_of start) ++ (heres o (copy_step t meaning body false) (walk_of first) ++ turn_starts (meaning body) t.limit [] (possible second.here)))
      put meaning x (inl (inl p)) = in_left x _ _ p
      put meaning x (inl (inr p)) = in_right x (heres r (copy_step t meaning body true) (walk_of start)) _ (in_left x _ _ p)
      put meaning x (inr p) = in_right x (heres r (copy_step t meaning body true) (walk_of start)) _ (in_right x (heres o (copy_step t meaning body false) (walk_of first)) _ p)

      take : (meaning : Meaning) (x : AbstractStack) → In x (heres r (copy_step t meaning body true) (walk_of start) ++ (heres o (copy_step t meaning body false) (walk_of first) ++ turn_starts (meaning body) t.limit [] (possible second.here)))
          → Copied meaning x ⊎ In x (turn_starts (meaning body) t.limit [] (possible second.here))
      take meaning x p = elim (in_split x (heres r (copy_step t meaning body true) (walk_of start)) _ p) [
        | inl q ↦ inl (inl q)
        | inr q ↦ elim (in_split x (heres o (copy_step t meaning body false) (walk_of first)) _ q) [ inl y ↦ inl (inr y) | inr y ↦ inr y ]
      ]

pub on_ok : {X E P Q : Type 0} (r : Result X E) → (P → Q) → OnOk r P → OnOk r Q
on_ok (Ok x) f h = f h
on_ok (Err e) f h = h
