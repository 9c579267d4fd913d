-- Calls that the search comes to; its begin and its end.
use Rattle.std.proofs.Common.{◌≡◌, ◌⊎◌, inl, inr, ℕ, ◌<◌, List, [], ◌∷◌, ◌++◌, Option, Some, None, Bool, true, false, slice_get, length, refl, sym, ◌∙◌, ap, subst, arith}
use Rattle.std.specs.List.{Contains}
use Rattle.std.proofs.Math.ListN.{set, length-set}
use Rattle.std.proofs.lemmas.List.Elements.{Contains-append_left, Contains-append_cases}
use Rattle.std.proofs.lemmas.Option.{slice_get_within}
use Rattle.base_language.specs.Language.Text.{Text}
use Rattle.base_language.specs.Language.Expression.{Expression, Ident, last_place}
use Rattle.base_language.specs.Language.Expression as bare
use Rattle.base_language.proofs.Basics.{clash, one_item}
use Rattle.front_spanned.specs.Erasure.{without_spans}
use Rattle.front_spanned.specs.Spanned.{Spanned, Leaf, SpannedRule, Span}
use Rattle.front_spanned.specs.declared.node.ParserRule.{ParserRule}
use Rattle.base_graphs.specs.Least.{is_set_at, unset}
use Rattle.front_validator.specs.LeftRecursion.{Closed, IsNoName, said, Means, Walks, walks_over, walks_closing, walks_outside, walks_again, walks_into}
use Rattle.front_analysis.specs.Nodes.{all_nodes, IsSimple}
use Rattle.front_validator.specs.Regions.{IsNodeOf}
use Rattle.front_validator.specs.Searching.{ordered, after, views, Calls, name_of, last_name, WalkFinds, TasksFind, AwaitsCall, IsKnown, AreCovered, AreSettled, IsSearchResult, IsSearch}
use Rattle.front_validator.specs.Walk.{Walked, w_name}
use Rattle.front_validator.specs.declared.recursions.Task.{Task}
use Rattle.front_validator.specs.declared.recursions.Task.TheVariants.{Visit, Leave}
use Rattle.base_graphs.proofs.LeastLemmas.{set_or_one}
use Rattle.front_validator.proofs.NoneWalks.{Flags, flags_more, no_flags, unset_flags, none_walked, at_end, set_keeps, set_sets, in_rules, IsFine, alone}
use Rattle.front_validator.proofs.SearchLemmas.{nothing}

name_walked : (rules : List SpannedRule) (v n k : Text) → Walked (said rules) v (Ident n) k → n ≡ k
name_walked rules v n k w_name = refl

simple_none : (rules : List SpannedRule) (v : Text) (e : Expression) (n : Text) → IsSimple e → IsNoName e → Walked (said rules) v e n → ⊥
simple_none rules v (bare.Str t) n s h w = elim w [ ]
simple_none rules v (bare.Insens t) n s h w = elim w [ ]
simple_none rules v (bare.Range t u) n s h w = elim w [ ]
simple_none rules v (bare.PushLiteral t) n s h w = elim w [ ]
simple_none rules v (bare.PeekSlice i j) n s h w = elim w [ ]
simple_none rules v (Ident m) n s h w = absurd h
simple_none rules v _ n s h w = absurd s

module _ (rules : List ParserRule) (roots : List ℕ) (start : ℕ) (entered : List Bool) where
  abbrev V : List SpannedRule
  V = views rules roots start

  abbrev Search : List Task → List ℕ → Type 0
  Search todo path = IsSearch rules roots start entered todo path

  called_once : (v n : Text) (s : Span) (t m : ℕ) → Means V n t → Calls rules roots start v (Leaf s (Ident n)) m → m ≡ t
  called_once v n s t m e (k, w, d) = let same = name_walked V v n k w in let f : last_place (said V) n ≡ Some m = subst (λ z. last_place (said V) z ≡ Some m) (sym same) d in let h = sym f ∙ e in cc

  -- 1. calls that are passed over
  pub over_leaf : (i : ℕ) (s : Span) (e : Expression) (todo : List Task) (k : ℕ) (path : List ℕ) → slice_get (all_nodes rules) i ≡ Some (Leaf s e) → IsSimple e → IsNoName e → Search (Visit i ∷ todo) (k ∷ path) → Search todo (k ∷ path)
  over_leaf i s e todo k path at simple h search = nothing rules roots start entered i (Leaf s e) todo k path at (walks_over h)
      (λ m d. absurd (simple_none V (last_name rules roots start (k ∷ path)) e d.0 simple h d.1)) search

  undefined_none : (n k : Text) (m : ℕ) → n ≡ k → last_place (said V) n ≡ None → last_place (said V) k ≡ Some m → ⊥
  undefined_none n k m e h d = let f = subst (λ z. last_place (said V) z ≡ None) e h in let g = sym f ∙ d in cc

  pub over_undefined : (i : ℕ) (s : Span) (n : Text) (todo : List Task) (k : ℕ) (path : List ℕ) → slice_get (all_nodes rules) i ≡ Some (Leaf s (Ident n)) → last_place (said V) n ≡ None → Search (Visit i ∷ todo) (k ∷ path) → Search todo (k ∷ path)
  over_undefined i s n todo k path at h search = nothing rules roots start entered i (Leaf s (Ident n)) todo k path at (walks_outside h)
      (λ m d. absurd (undefined_none n d.0 m (name_walked V (last_name rules roots start (k ∷ path)) n d.0 d.1) h d.2)) search

  -- 2. the rules of a path, as flags
  flagged : (path : List ℕ) → ((m : ℕ) → Contains (ordered path) m → m < length V) → (flags : List Bool) × Flags (length V) (ordered path) flags
  flagged [] f = (unset_flags (length V), no_flags (length V))
  flagged (k ∷ path) f = let (flags, h) = flagged path (λ m c. f m (Contains-append_left (ordered path) (k ∷ []) m c)) in
      (set flags k true, flags_more (length V) (ordered path) flags k (f k (at_end (ordered path) k)) h)

  in_views : (todo : List Task) (path : List ℕ) → Search todo path → (m : ℕ) → Contains (ordered path) m → m < length V
  in_views todo path search m c = let (r, at, name) = in_rules V (name_of rules roots start (slice_get V m)) m (search.last_ones m c) in slice_get_within V m r at

  -- a rule that was entered and left
  abbrev IsLeft : List ℕ → ℕ → Type 0
  IsLeft path m = (is_set_at entered m ≡ true) × (Contains (ordered path) m → ⊥)

  known_fine : (path : List ℕ) (decided : (m : ℕ) → Contains (ordered path) m ⊎ (Contains (ordered path) m → ⊥)) (v : Text) (e : Spanned) → ((m : ℕ) → Calls rules roots start v e m → IsKnown rules roots start entered m) → IsFine V start (ordered path) (IsLeft path) v (without_spans e)
  known_fine path decided v e known m d = let (apart, on) = known m d in (apart, elim (decided m) [ inl c ↦ inl c | inr out ↦ inr (on, out) ])

  decided_by : (path : List ℕ) (flags : List Bool) → Flags (length V) (ordered path) flags → (m : ℕ) → Contains (ordered path) m ⊎ (Contains (ordered path) m → ⊥)
  decided_by path flags f m = go (is_set_at flags m) refl
    where
      go : (b : Bool) → is_set_at flags m ≡ b → Contains (ordered path) m ⊎ (Contains (ordered path) m → ⊥)
      go true h = inl (f.had m h)
      go false h = inr (λ c. clash (is_set_at flags m) (f.has m c) h)

  -- the walk from a rule that was entered and left comes to none
  left_none : (path : List ℕ) → AreSettled rules roots start entered path → (flags : List Bool) → Flags (length V) (ordered path) flags → (t : ℕ) (r : SpannedRule) → IsLeft path t → slice_get V t ≡ Some r
      → Walks V start (ordered path ++ t ∷ []) r.name r.body None
  left_none path settled flags f t r is_left at =
      let decided = decided_by path flags f in
      none_walked V start (ordered path) (IsLeft path) (λ m q p here. known_fine path decided q.name q.body (λ n d. settled m p.0 p.1 q n here d))
      (unset (set flags t true)) (set flags t true) (ordered path ++ t ∷ []) (flags_more (length V) (ordered path) flags t (slice_get_within V t r at) f) (omega arith)
      (λ m c. Contains-append_left (ordered path) (t ∷ []) m c) r.name r.body (known_fine path decided r.name r.body (λ n d. settled t is_left.0 is_left.1 r n at d))

  -- 3. a call of a rule that was entered
  pub over_known : (i : ℕ) (s : Span) (n : Text) (t : ℕ) (todo : List Task) (k : ℕ) (path : List ℕ) → slice_get (all_nodes rules) i ≡ Some (Leaf s (Ident n)) → Means V n t → (t ≡ start → ⊥) → is_set_at entered t ≡ true
      → Search (Visit i ∷ todo) (k ∷ path) → Search todo (k ∷ path)
  over_known i s n t todo k path at means apart on search = nothing rules roots start entered i (Leaf s (Ident n)) todo k path at comes
      (λ m d. let e = called_once (last_name rules roots start (k ∷ path)) n s t m means d in subst (λ z. IsKnown rules roots start entered z) (sym e) (apart, on)) search
    where
      comes : Walks V start (ordered (k ∷ path)) (last_name rules roots start (k ∷ path)) (Leaf s (Ident n)) None
      comes = let (flags, f) = flagged (k ∷ path) (in_views (Visit i ∷ todo) (k ∷ path) search) in
          let (r, here, name) = in_rules V n t means in
          elim (decided_by (k ∷ path) flags f t) [
            | inl c ↦ walks_again means apart c
            | inr out ↦ walks_into means apart out here (left_none (k ∷ path) search.settled flags f t r (on, out) here)
          ]

  -- 4. a call of the start
  pub closes : (i : ℕ) (s : Span) (n : Text) (todo : List Task) (k : ℕ) (path : List ℕ) → slice_get (all_nodes rules) i ≡ Some (Leaf s (Ident n)) → Means V n start → Search (Visit i ∷ todo) (k ∷ path)
      → IsSearchResult rules roots start (Some (record { trail = ordered (k ∷ path); call = s }))
  closes i s n todo k path at means search = search.answers (Some (record { trail = ordered (k ∷ path); call = s }))
      (inl (λ y h. subst (λ z. Walks V start (ordered (k ∷ path)) (last_name rules roots start (k ∷ path)) z (Some (record { trail = ordered (k ∷ path); call = s }))) (one_item at h) (walks_closing means)))

  -- 5. a rule is entered
  module _ (t : ℕ) (apart : t ≡ start → ⊥) (small : t < length entered) where
    abbrev more : List Bool
    more = set entered t true

    known_more : (m : ℕ) → IsKnown rules roots start entered m → IsKnown rules roots start more m
    known_more m (a, b) = (a, set_keeps entered t m b)

    covered_more : (path : List ℕ) (todo : List Task) → AreCovered rules roots start entered path todo → AreCovered rules roots start more path todo
    covered_more [] todo c = tt
    covered_more (k ∷ path) todo c = ((λ r m at d. elim (c.0 r m at d) [ inl a ↦ inl (known_more m a) | inr a ↦ inr a ]), covered_more path (after todo) c.1)

    pub enters : (i : ℕ) (s : Span) (n : Text) (root : ℕ) (r : SpannedRule) (todo : List Task) (k : ℕ) (path : List ℕ) → slice_get (all_nodes rules) i ≡ Some (Leaf s (Ident n)) → Means V n t → is_set_at entered t ≡ false
        → slice_get V t ≡ Some r → IsNodeOf rules roots t root r.body → Search (Visit i ∷ todo) (k ∷ path) → IsSearch rules roots start more (Visit root ∷ Leave ∷ todo) (t ∷ k ∷ path)
    enters i s n root r todo k path at means off here place search = record {
      alike = length-set entered t true ∙ search.alike;
      placed = ((r.body, place), search.placed.1);
      answers = λ o g. search.answers o (goes o g);
      covered = (
        (λ q m got d. let e = one_item here got in inr (inl (r.body, place.node, subst (λ z. Calls rules roots start q.name z.body m) (sym e) d))),
        ((λ q m got d. covered_here q m got d (search.covered.0 q m got d)), covered_more path (after todo) search.covered.1),
      );
      settled = λ m on out q j got d. elim (set_or_one entered t m on) [
        | inl e ↦ absurd (out (subst (λ z. Contains (ordered (t ∷ k ∷ path)) z) (sym e) (at_end (ordered (k ∷ path)) t)))
        | inr h ↦ known_more j (search.settled m h (λ c. out (Contains-append_left (ordered (k ∷ path)) (t ∷ []) m c)) q j got d)
      ];
      begun = set_keeps entered t start search.begun;
      entered_all = λ m c. elim (Contains-append_cases (ordered (k ∷ path)) (t ∷ []) m c) [
        | inl d ↦ set_keeps entered t m (search.entered_all m d)
        | inr d ↦ subst (λ z. is_set_at more z ≡ true) (sym (alone t m d)) (set_sets entered t small)
      ];
      last_ones = λ m c. elim (Contains-append_cases (ordered (k ∷ path)) (t ∷ []) m c) [
        | inl d ↦ search.last_ones m d
        | inr d ↦ subst (λ z. Means V (name_of rules roots start (slice_get V z)) z) (sym (alone t m d)) named
      ];
    }
      where
        is_name : r.name ≡ n
        is_name = let (q, got, name) = in_rules V n t means in ap (λ z. z.name) (one_item here got) ∙ name

        named : Means V (name_of rules roots start (slice_get V t)) t
        named = subst (λ z. Means V z t) (sym (ap (name_of rules roots start) here ∙ is_name)) means

        out : Contains (ordered (k ∷ path)) t → ⊥
        out c = clash (is_set_at entered t) (search.entered_all t c) off

        comes : (o : Option Closed) → WalkFinds rules roots start (t ∷ k ∷ path) root o → WalkFinds rules roots start (k ∷ path) i o
        comes o c y h = subst (λ z. Walks V start (ordered (k ∷ path)) (last_name rules roots start (k ∷ path)) z o) (one_item at h)
            (walks_into means apart out here (subst (λ z. Walks V start (ordered (t ∷ k ∷ path)) z r.body o) (ap (name_of rules roots start) here) (c r.body place.node)))

        goes : (o : Option Closed) → TasksFind rules roots start (t ∷ k ∷ path) (Visit root ∷ Leave ∷ todo) o → TasksFind rules roots start (k ∷ path) (Visit i ∷ todo) o
        goes None g = (comes None g.0, g.1)
        goes (Some z) (inl g) = inl (comes (Some z) g)
        goes (Some z) (inr g) = inr (comes None g.0, g.1)

        covered_here : (q : SpannedRule) (m : ℕ) → slice_get V k ≡ Some q → Calls rules roots start q.name q.body m → IsKnown rules roots start entered m ⊎ AwaitsCall rules roots start q.name (Visit i ∷ todo) m → IsKnown rules roots start more m ⊎ AwaitsCall rules roots start q.name todo m
        covered_here q m got d (inl a) = inl (known_more m a)
        covered_here q m got d (inr (inr a)) = inr a
        covered_here q m got d (inr (inl (x, is_x, call))) =
            let e = called_once q.name n s t m means (subst (λ z. Calls rules roots start q.name z m) (one_item is_x at) call) in
            inl (subst (λ z. IsKnown rules roots start more z) (sym e) (apart, set_sets entered t small))

  -- 6. the end
  pub finished : (path : List ℕ) → Search [] path → IsSearchResult rules roots start None × ((m : ℕ) → is_set_at entered m ≡ true → (r : SpannedRule) (j : ℕ) → slice_get V m ≡ Some r → Calls rules roots start r.name r.body j → IsKnown rules roots start entered j)
  finished path search = (search.answers None refl, λ m on r j at d. search.settled m on (λ c. nothing_in m (subst (λ z. Contains (ordered z) m) search.placed c)) r j at d)
    where
      nothing_in : (m : ℕ) → Contains [] m → ⊥
      nothing_in m (i, l, e) = omega arith

-- 7. the begin
pub begins : (rules : List ParserRule) (roots : List ℕ) (start root : ℕ) (r : SpannedRule) (flags : List Bool) → length flags ≡ length (views rules roots start) → start < length flags → ((m : ℕ) → is_set_at flags m ≡ false)
    → slice_get (views rules roots start) start ≡ Some r → Means (views rules roots start) r.name start → IsNodeOf rules roots start root r.body
    → IsSearch rules roots start (set flags start true) (Visit root ∷ Leave ∷ []) (start ∷ [])
begins rules roots start root r flags l small none here means place = record {
  alike = length-set flags start true ∙ l;
  placed = ((r.body, place), refl);
  answers = λ o g. answered o g;
  covered = ((λ q m got d. let e = one_item here got in inr (inl (r.body, place.node, subst (λ z. Calls rules roots start q.name z.body m) (sym e) d))), tt);
  settled = λ m on out. elim (set_or_one flags start m on) [ inl e ↦ absurd (out (subst (λ z. Contains (start ∷ []) z) (sym e) (at_end [] start))) | inr h ↦ absurd (clash (is_set_at flags m) h (none m)) ];
  begun = set_sets flags start small;
  entered_all = λ m c. subst (λ z. is_set_at (set flags start true) z ≡ true) (sym (alone start m c)) (set_sets flags start small);
  last_ones = λ m c. subst (λ z. Means (views rules roots start) (name_of rules roots start (slice_get (views rules roots start) z)) z) (sym (alone start m c)) (subst (λ z. Means (views rules roots start) z start) (sym (ap (name_of rules roots start) here)) means);
}
  where
    comes : (o : Option Closed) → WalkFinds rules roots start (start ∷ []) root o → IsSearchResult rules roots start o
    comes o c q got = let e = one_item here got in
        subst (λ z. Walks (views rules roots start) start (start ∷ []) z.name z.body o) e
        (subst (λ z. Walks (views rules roots start) start (start ∷ []) z r.body o) (ap (name_of rules roots start) here) (c r.body place.node))

    answered : (o : Option Closed) → TasksFind rules roots start (start ∷ []) (Visit root ∷ Leave ∷ []) o → IsSearchResult rules roots start o
    answered None g = comes None g.0
    answered (Some z) (inl g) = comes (Some z) g
    answered (Some z) (inr g) = let h = g.1 in cc
