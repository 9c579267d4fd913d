-- What is reported stands at a route.
use Rattle.std.proofs.Common.{◌≡◌, ◌⊎◌, inl, inr, ℕ, zero, suc, List, [], ◌∷◌, ◌++◌, Bool, true, false, if◌then◌else◌, Option, Some, None, refl, sym, ◌∙◌, ap, subst}
use Rattle.base_language.specs.Language.Text.{Text}
use Rattle.base_language.specs.Language.Expression.{Grammar, Expression}
use Rattle.base_language.proofs.CannotFailIsNullable.{nullable_of}
use Rattle.base_language.proofs.Basics.{same_some}
use Rattle.front_spanned.specs.Erasure.{without_spans}
use Rattle.front_spanned.specs.Spanned.{span_of, Span, Spanned, Leaf, One, Two, Unary, PosPred, NegPred, Opt, Rep, RepOnce, RepExact, RepMin, RepMax, RepMinMax, Push, Tag, Binary, Seq, Choice}
use Rattle.front_stack_domain.specs.Stack.{AbstractStack, In, entry, is_among}
use Rattle.front_stack_domain.specs.Reading.{Reading, loops, tried, Copy, Required, Optional, Endless}
use Rattle.front_stack_domain.specs.Reports.{Route, Here, First, Second, Inner, Turn, IsPartAt, to_itself, to_seq_first, to_seq_second, to_choice_first, to_choice_second, to_opt, to_push, to_tag, to_pos_pred, to_neg_pred, to_turn, HasTurn, repetition, Repeats, any_times, once_or_more, at_least, next, turn_start, Visits, visit, visit_seq_first, visit_seq_second, visit_choice_first, visit_choice_second, visit_opt, visit_push, visit_tag, visit_pos_pred, visit_neg_pred, visit_turn, IsReport, SkippingAltersStack, reading_in}
use Rattle.front_stack_domain.specs.Reported.{turn_starts, starts, copies_of, is_endless, is_choice, SomeLoop, Own, ReportedIn, ReportedFrom, node_at, KnowsNullable, IsCertainAt}
use Rattle.front_stack_domain.specs.Walks.{next_after}
use Rattle.front_stack_domain.proofs.Certain.{certain}
use Rattle.front_stack_domain.proofs.Reaching.{never_ends}

pub in_split : {A : Type 0} (x : A) (ys zs : List A) → In x (ys ++ zs) → In x ys ⊎ In x zs
in_split x [] zs h = inr h
in_split x (y ∷ ys) zs (inl e) = inl (inl e)
in_split x (y ∷ ys) zs (inr i) = elim (in_split x ys zs i) [ inl j ↦ inl (inr j) | inr j ↦ inr j ]

module _ (step : AbstractStack → Reading) where
  -- a copy starts from this stack
  abbrev Starts : List Copy → Option AbstractStack → AbstractStack → Type 0
  Starts cs q b = (a : AbstractStack) × (q ≡ Some a) × ((i : ℕ) × (turn_start step cs i a ≡ Some b))

  later : (c : Copy) (cs : List Copy) (a b : AbstractStack) (q : Option AbstractStack) (e : AbstractStack) (i : ℕ) → q ≡ Some e → turn_start step cs i e ≡ Some b → next q (λ z. turn_start step cs i z) ≡ Some b
  later c cs a b q e i h k = ap (λ q. next q (λ z. turn_start step cs i z)) h ∙ k

  turn_starts_turn : (k : ℕ) (seen : List AbstractStack) (q : Option AbstractStack) (b : AbstractStack) → In b (turn_starts step k seen q) → Starts (Endless ∷ []) q b
  unfolding turn_starts
  turn_starts_turn zero seen q b h = absurd h
  turn_starts_turn (suc k) seen None b h = absurd h
  turn_starts_turn (suc k) seen (Some a) b h = go (is_among seen a) h (λ i. turn_starts_turn k (a ∷ seen) (step a).ok b i)
    where
      onwards : Starts (Endless ∷ []) (step a).ok b → Starts (Endless ∷ []) (Some a) b
      onwards r = (a, refl, (suc r.2.0, later Endless (Endless ∷ []) a b (step a).ok r.0 r.2.0 r.1 r.2.1))

      go : (t : Bool) → In b (if t then [] else a ∷ turn_starts step k (a ∷ seen) (step a).ok) → (In b (turn_starts step k (a ∷ seen) (step a).ok) → Starts (Endless ∷ []) (step a).ok b) → Starts (Endless ∷ []) (Some a) b
      go true h f = absurd h
      go false (inl e) f = (a, refl, (0, ap Some (sym e)))
      go false (inr i) f = onwards (f i)

  -- turns at the end come after the copies before them, whatever stands behind
  turns_anywhere : (cs : List Copy) (i : ℕ) (a : AbstractStack) → turn_start step (Endless ∷ cs) i a ≡ turn_start step (Endless ∷ []) i a
  turns_anywhere cs zero a = refl
  turns_anywhere cs (suc i) a = go (step a).ok (λ b. turns_anywhere cs i b)
    where
      go : (q : Option AbstractStack) → ((b : AbstractStack) → turn_start step (Endless ∷ cs) i b ≡ turn_start step (Endless ∷ []) i b) → next q (λ b. turn_start step (Endless ∷ cs) i b) ≡ next q (λ b. turn_start step (Endless ∷ []) i b)
      go None f = refl
      go (Some b) f = f b

  starts_turn : (limit : ℕ) (cs : List Copy) (q : Option AbstractStack) (b : AbstractStack) → In b (starts limit step cs q) → Starts cs q b
  starts_turn limit [] q b h = absurd h
  starts_turn limit (c ∷ cs) None b h = absurd h
  starts_turn limit (Required ∷ cs) (Some a) b (inl e) = (a, refl, (0, ap Some (sym e)))
  starts_turn limit (Required ∷ cs) (Some a) b (inr i) = let r = starts_turn limit cs (step a).ok b i in
      (a, refl, (suc r.2.0, later Required cs a b (step a).ok r.0 r.2.0 r.1 r.2.1))
  starts_turn limit (Optional ∷ cs) (Some a) b (inl e) = (a, refl, (0, ap Some (sym e)))
  starts_turn limit (Optional ∷ cs) (Some a) b (inr i) = let r = starts_turn limit cs (tried a (step a)) b i in
      (a, refl, (suc r.2.0, later Optional cs a b (tried a (step a)) r.0 r.2.0 r.1 r.2.1))
  starts_turn limit (Endless ∷ cs) (Some a) b h = let r = turn_starts_turn limit [] (Some a) b h in
      (r.0, r.1, (r.2.0, turns_anywhere cs r.2.0 r.0 ∙ r.2.1))

  -- what starts is a copy or turn that there is
  has_turn : (cs : List Copy) (i : ℕ) (a b : AbstractStack) → turn_start step cs i a ≡ Some b → HasTurn cs i
  has_turn [] i a b h = cc
  has_turn (Required ∷ cs) zero a b h = tt
  has_turn (Required ∷ cs) (suc i) a b h = go (step a).ok h (λ c k. has_turn cs i c b k)
    where
      go : (q : Option AbstractStack) → next q (λ z. turn_start step cs i z) ≡ Some b → ((c : AbstractStack) → turn_start step cs i c ≡ Some b → HasTurn cs i) → HasTurn cs i
      go None h f = cc
      go (Some c) h f = f c h
  has_turn (Optional ∷ cs) zero a b h = tt
  has_turn (Optional ∷ cs) (suc i) a b h = go (tried a (step a)) h (λ c k. has_turn cs i c b k)
    where
      go : (q : Option AbstractStack) → next q (λ z. turn_start step cs i z) ≡ Some b → ((c : AbstractStack) → turn_start step cs i c ≡ Some b → HasTurn cs i) → HasTurn cs i
      go None h f = cc
      go (Some c) h f = f c h
  has_turn (Endless ∷ cs) i a b h = tt

module _ (limit turns : ℕ) (step : Expression → AbstractStack → Reading) (nullable : Spanned → Bool) where
  abbrev read : Spanned → AbstractStack → Reading
  read x = step (without_spans x)

  -- a repetition in x that is visited, where x is from a, and reported
  record Found (x : Spanned) (t : Span) (a : AbstractStack) : Type 0 where
    route : Route
    node : Spanned
    body : Spanned
    here : AbstractStack
    at : node_at x route ≡ Some node
    place : span_of node ≡ t
    leads : IsPartAt (without_spans x) route (without_spans node)
    visits : Visits step (without_spans x) route a here
    repeats : Repeats (without_spans node) (without_spans body)
    takes : nullable body ≡ false
    loops_there : loops turns (read body) here ≡ true

  repeats_own : (s : Span) (f : Unary) (x : Spanned) → is_endless f ≡ true → Repeats (without_spans (One s f x)) (without_spans x)
  repeats_own s Rep x h = any_times
  repeats_own s RepOnce x h = once_or_more
  repeats_own s (RepMin n) x h = at_least
  repeats_own s PosPred x h = cc
  repeats_own s NegPred x h = cc
  repeats_own s Opt x h = cc
  repeats_own s (RepExact n) x h = cc
  repeats_own s (RepMax n) x h = cc
  repeats_own s (RepMinMax m n) x h = cc
  repeats_own s Push x h = cc
  repeats_own s (Tag t) x h = cc

  own : (s : Span) (f : Unary) (x : Spanned) (a : AbstractStack) → is_endless f ≡ true → nullable x ≡ false → loops turns (read x) a ≡ true → Found (One s f x) s a
  own s f x a e n l = record {
    route = Here;
    node = One s f x;
    body = x;
    here = a;
    at = refl;
    place = refl;
    leads = to_itself;
    visits = visit;
    repeats = repeats_own s f x e;
    takes = n;
    loops_there = l;
  }

  in_turn : (s : Span) (f : Unary) (x : Spanned) (t : Span) (a b : AbstractStack) (i : ℕ) → repetition (without_spans (One s f x)) ≡ Some (record { body = without_spans x; copies = copies_of f })
      → turn_start (read x) (copies_of f) i a ≡ Some b → Found x t b → Found (One s f x) t a
  in_turn s f x t a b i e h d = record {
    route = Turn i d.route;
    node = d.node;
    body = d.body;
    here = d.here;
    at = d.at;
    place = d.place;
    leads = to_turn e (has_turn (read x) (copies_of f) i a b h) d.leads;
    visits = visit_turn e h d.visits;
    repeats = d.repeats;
    takes = d.takes;
    loops_there = d.loops_there;
  }

  one_start : (x : Spanned) (a b : AbstractStack) (i : ℕ) → turn_start (read x) (Required ∷ []) i a ≡ Some b → a ≡ b
  one_start x a b zero h = same_some h
  one_start x a b (suc i) h = go (read x a).ok h
    where
      go : (q : Option AbstractStack) → next q (λ z. turn_start (read x) [] i z) ≡ Some b → a ≡ b
      go None h = cc
      go (Some z) h = cc

  inner : (s : Span) (f : Unary) (x : Spanned) (t : Span) (a b : AbstractStack) → a ≡ b → ((r : Route) (p : Expression) → IsPartAt (without_spans x) r p → IsPartAt (without_spans (One s f x)) (Inner r) p)
      → ((r : Route) (c : AbstractStack) → Visits step (without_spans x) r a c → Visits step (without_spans (One s f x)) (Inner r) a c) → Found x t b → Found (One s f x) t a
  inner s f x t a b e l v d = record {
    route = Inner d.route;
    node = d.node;
    body = d.body;
    here = d.here;
    at = d.at;
    place = d.place;
    leads = l d.route (without_spans d.node) d.leads;
    visits = v d.route d.here (subst (λ c. Visits step (without_spans x) d.route c d.here) (sym e) d.visits);
    repeats = d.repeats;
    takes = d.takes;
    loops_there = d.loops_there;
  }

  inside : (s : Span) (f : Unary) (x : Spanned) (t : Span) (a b : AbstractStack) (i : ℕ) → turn_start (read x) (copies_of f) i a ≡ Some b → Found x t b → Found (One s f x) t a
  inside s PosPred x t a b i h d = inner s PosPred x t a b (one_start x a b i h) (λ r p l. to_pos_pred l) (λ r c v. visit_pos_pred v) d
  inside s NegPred x t a b i h d = inner s NegPred x t a b (one_start x a b i h) (λ r p l. to_neg_pred l) (λ r c v. visit_neg_pred v) d
  inside s Opt x t a b i h d = inner s Opt x t a b (one_start x a b i h) (λ r p l. to_opt l) (λ r c v. visit_opt v) d
  inside s Push x t a b i h d = inner s Push x t a b (one_start x a b i h) (λ r p l. to_push l) (λ r c v. visit_push v) d
  inside s (Tag u) x t a b i h d = inner s (Tag u) x t a b (one_start x a b i h) (λ r p l. to_tag l) (λ r c v. visit_tag v) d
  inside s Rep x t a b i h d = in_turn s Rep x t a b i refl h d
  inside s RepOnce x t a b i h d = in_turn s RepOnce x t a b i refl h d
  inside s (RepExact n) x t a b i h d = in_turn s (RepExact n) x t a b i refl h d
  inside s (RepMin n) x t a b i h d = in_turn s (RepMin n) x t a b i refl h d
  inside s (RepMax n) x t a b i h d = in_turn s (RepMax n) x t a b i refl h d
  inside s (RepMinMax m n) x t a b i h d = in_turn s (RepMinMax m n) x t a b i refl h d

  first : (s : Span) (f : Binary) (x y : Spanned) (t : Span) (a : AbstractStack) → Found x t a → Found (Two s f x y) t a
  first s Seq x y t a d = record {
    route = First d.route;
    node = d.node;
    body = d.body;
    here = d.here;
    at = d.at;
    place = d.place;
    leads = to_seq_first d.leads;
    visits = visit_seq_first d.visits;
    repeats = d.repeats;
    takes = d.takes;
    loops_there = d.loops_there;
  }
  first s Choice x y t a d = record {
    route = First d.route;
    node = d.node;
    body = d.body;
    here = d.here;
    at = d.at;
    place = d.place;
    leads = to_choice_first d.leads;
    visits = visit_choice_first d.visits;
    repeats = d.repeats;
    takes = d.takes;
    loops_there = d.loops_there;
  }

  second : (s : Span) (f : Binary) (x y : Spanned) (t : Span) (a b : AbstractStack) → next_after (is_choice f) (read x a) a ≡ Some b → Found y t b → Found (Two s f x y) t a
  second s Seq x y t a b h d = record {
    route = Second d.route;
    node = d.node;
    body = d.body;
    here = d.here;
    at = d.at;
    place = d.place;
    leads = to_seq_second d.leads;
    visits = visit_seq_second h d.visits;
    repeats = d.repeats;
    takes = d.takes;
    loops_there = d.loops_there;
  }
  second s Choice x y t a b h d = record {
    route = Second d.route;
    node = d.node;
    body = d.body;
    here = d.here;
    at = d.at;
    place = d.place;
    leads = to_choice_second d.leads;
    visits = visit_choice_second h d.visits;
    repeats = d.repeats;
    takes = d.takes;
    loops_there = d.loops_there;
  }

  abbrev FoundFrom : (AbstractStack → Type 0) → Spanned → Span → Type 0
  FoundFrom S x t = (a : AbstractStack) × (S a × Found x t a)

  found : (x : Spanned) (S : AbstractStack → Type 0) (ts : List Span) → ReportedIn limit turns read nullable S x ts → (t : Span) → In t ts → FoundFrom S x t
  found (Leaf s e) S ts h t i = absurd (subst (In t) h i)
  found (One s f x) S ts h t i = go h.2
      (λ j. deeper (found x (λ b. (a : AbstractStack) × S a × In b (starts limit (read x) (copies_of f) (Some a))) h.0 h.1 t j))
    where
      deeper : FoundFrom (λ b. (a : AbstractStack) × S a × In b (starts limit (read x) (copies_of f) (Some a))) x t → FoundFrom S (One s f x) t
      deeper r =
          let n = starts_turn (read x) limit (copies_of f) (Some r.1.0.0) r.0 r.1.0.2 in
          let e : n.0 ≡ r.1.0.0 = sym (same_some n.1) in
          (r.1.0.0, (r.1.0.1, inside s f x t r.1.0.0 r.0 n.2.0 (subst (λ c. turn_start (read x) (copies_of f) n.2.0 c ≡ Some r.0) e n.2.1) r.1.1))

      own_or_deeper : (t ≡ s) ⊎ In t h.0 → is_endless f ≡ true → nullable x ≡ false → SomeLoop limit turns read nullable S x → (In t h.0 → FoundFrom S (One s f x) t) → FoundFrom S (One s f x) t
      own_or_deeper (inl e) k n l g = (l.0, (l.1, subst (λ u. Found (One s f x) u l.0) (sym e) (own s f x l.0 k n l.2)))
      own_or_deeper (inr j) k n l g = g j

      go : Own limit turns read nullable S s f x h.0 ts → (In t h.0 → FoundFrom S (One s f x) t) → FoundFrom S (One s f x) t
      go (inl o) g = own_or_deeper (subst (In t) o.3 i) o.0 o.1 o.2 g
      go (inr o) g = g (subst (In t) o.1 i)
  found (Two s f x y) S ts h t i = elim (in_split t h.0 h.1 (subst (In t) h.4 i)) [
    | inl j ↦ in_first (found x S h.0 h.2 t j)
    | inr j ↦ in_second (found y (λ b. (a : AbstractStack) × S a × (next_after (is_choice f) (read x a) a ≡ Some b)) h.1 h.3 t j)
  ]
    where
      in_first : FoundFrom S x t → FoundFrom S (Two s f x y) t
      in_first r = (r.0, (r.1.0, first s f x y t r.0 r.1.1))

      in_second : FoundFrom (λ b. (a : AbstractStack) × S a × (next_after (is_choice f) (read x a) a ≡ Some b)) y t → FoundFrom S (Two s f x y) t
      in_second r = (r.1.0.0, (r.1.0.1, second s f x y t r.1.0.0 r.0 r.1.0.2 r.1.1))

-- each span that is reported is that of a repetition that certainly has no outcome, on the route that was read
pub reported_is_certain : (limit turns : ℕ) (recursive : Text → Bool) (g : Grammar) (nullable : Spanned → Bool) → KnowsNullable g nullable → (SkippingAltersStack g → ⊥)
    → (x : Spanned) (ts : List Span) → ReportedFrom limit turns recursive g nullable x ts → (t : Span) → In t ts → IsCertainAt limit turns recursive g x t
reported_is_certain limit turns recursive g nullable null calm x ts h t i =
    let step : Expression → AbstractStack → Reading = reading_in limit recursive g in
    let r = found limit turns step nullable x (λ a. a ≡ entry) ts h t i in
    let d : Found limit turns step nullable x t r.0 = r.1.1 in
    let report : IsReport limit turns recursive g (without_spans x) (without_spans d.node) d.route d.here = record {
      body = without_spans d.body;
      repeats = d.repeats;
      not_null = null d.body d.takes;
      not_sure = λ c. null d.body d.takes (nullable_of g c);
      calm = calm;
      leads = d.leads;
      visits = subst (λ a. Visits step (without_spans x) d.route a d.here) r.1.0 d.visits;
      loops_there = d.loops_there;
    } in
    let sure = certain limit turns recursive g (without_spans x) (without_spans d.node) d.route d.here report in
    record {
      route = d.route;
      stack = d.here;
      node = d.node;
      at = d.at;
      place = d.place;
      reported = report;
      certain = sure;
      never_ends = never_ends g (without_spans x) (without_spans d.node) d.route d.here sure;
    }
