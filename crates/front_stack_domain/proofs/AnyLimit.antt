-- Limits beyond the number of stacks give the same readings and the same reports.
use Rattle.std.proofs.Common.{◌≡◌, inl, inr, ℕ, zero, suc, ◌<◌, List, [], ◌∷◌, replicate, Bool, true, false, not, ◌||◌, if◌then◌else◌, Option, Some, None, refl, sym, ◌∙◌, ap, ap₂, subst, length, arith}
use Rattle.base_language.specs.Language.Text.{Text}
use Rattle.base_language.specs.Language.Expression.{Grammar, Expression, Str, Insens, Range, Ident, PeekSlice, PosPred, NegPred, Seq, Choice, Opt, Rep, RepOnce, RepExact, RepMin, RepMax, RepMinMax, Skip, Push, RestoreOnErr, Rule, rule_of, PushLiteral, NodeTag}
use Rattle.front_spanned.specs.Erasure.{without_spans}
use Rattle.front_spanned.specs.Spanned.{Span, Spanned, Leaf, One, Two}
use Rattle.front_stack_domain.specs.Stack.{In, AbstractStack, entry, made_intact, failed, is_among, are_among}
use Rattle.front_stack_domain.specs.Reading.{Reading, anything, from, ahead_reading, not_ahead_reading, seq_reading, choice_reading, opt_reading, pushed_reading, tried, Copy, Required, Optional, Endless, is_single, Walk, turns, onward, walk, walked, at_least_copies, from_to_copies, reading, rule_reading, name_reading, lands, loops_within, loops}
use Rattle.front_stack_domain.specs.Reports.{skips_in, reading_in}
use Rattle.front_stack_domain.specs.Reported.{copies_of, is_choice, turn_starts, starts, SomeLoop, Inside, AfterFirst, ReportedIn, ReportedFrom}
use Rattle.front_stack_domain.specs.Turns.{HasFewMarks, most_stacks}
use Rattle.front_stack_domain.specs.Walks.{stepped, ended, next_after}
use Rattle.front_stack_domain.proofs.FewMarks.{FewWhere, FewBoth, LeadsToFew, keeps_few, failed_few, tried_few, onward_few, expression_few, name_few, reading_few}
use Rattle.front_stack_domain.proofs.Turning.{turns_end, one_end, same_end}

module _ (m n : ℕ) (most_m : most_stacks < m) (most_n : most_stacks < n) where
  module _ (step other : AbstractStack → Reading) (few : LeadsToFew step) (same : (a : AbstractStack) → HasFewMarks a → step a ≡ other a) where
    other_few : LeadsToFew other
    other_few a h = subst (λ r. FewBoth r) (same a h) (few a h)

    turns_same : (a : AbstractStack) (w : Walk) → HasFewMarks a
        → (turn_starts step m [] (Some a) ≡ turn_starts other n [] (Some a)) × (turns m step m [] (Some a) w ≡ turns n other n [] (Some a) w)
    turns_same a w h =
        let keeps = keeps_few step few in
        one_end other (same_end step other keeps same (turns_end m step keeps a w h most_m) h) (turns_end n other (keeps_few other other_few) a w h most_n)

    copy_same : (c : Copy) (q : Option AbstractStack) (w : Walk) → FewWhere q → onward m step c q w ≡ onward n other c q w
    copy_same c None w h = refl
    copy_same Required (Some a) w h = ap (λ r. stepped true a r w) (same a h)
    copy_same Optional (Some a) w h = ap (λ r. stepped false a r w) (same a h)
    copy_same Endless (Some a) w h = (turns_same a (record { here = None; failing = w.failing; still = w.still }) h).1

    walk_same : (cs : List Copy) (w : Walk) → FewWhere w.here → walk m step cs w ≡ walk n other cs w
    walk_same [] w h = refl
    walk_same (c ∷ cs) w h =
        walk_same cs (onward m step c w.here w) (onward_few m step few c w.here w h h) ∙ ap (λ v. walk n other cs v) (copy_same c w.here w h)

    walked_same : (skips : Bool) (cs : List Copy) (a : AbstractStack) → HasFewMarks a → walked m step skips a cs ≡ walked n other skips a cs
    walked_same skips cs a h = ap (λ w. ended a (not skips || is_single cs) w) (walk_same cs (record { here = Some a; failing = false; still = true }) h)

    starts_same : (cs : List Copy) (q : Option AbstractStack) → FewWhere q → starts m step cs q ≡ starts n other cs q
    starts_same [] q h = refl
    starts_same (c ∷ cs) None h = refl
    starts_same (Required ∷ cs) (Some a) h = ap (λ l. a ∷ l) (starts_same cs (step a).ok (few a h).0 ∙ ap (λ r. starts n other cs r.ok) (same a h))
    starts_same (Optional ∷ cs) (Some a) h = ap (λ l. a ∷ l) (starts_same cs (tried a (step a)) (tried_few m step few a h) ∙ ap (λ r. starts n other cs (tried a r)) (same a h))
    starts_same (Endless ∷ cs) (Some a) h = (turns_same a (record { here = None; failing = false; still = true }) h).0

    lands_same : (q p : Option AbstractStack) (s : Bool) (marks : List (List Bool)) (f g : List (List Bool) → AbstractStack → Bool)
        → FewWhere q → ((l : List (List Bool)) (b : AbstractStack) → HasFewMarks b → f l b ≡ g l b) → lands q p s marks f ≡ lands q p s marks g
    lands_same None p s marks f g h k = refl
    lands_same (Some b) (Some c) s marks f g h k = refl
    lands_same (Some b) None false marks f g h k = refl
    lands_same (Some b) None true marks f g h k =
        ap₂ (λ x y. if b.intact then (if are_among marks b.marks then true else x) else y) (k (b.marks ∷ marks) (made_intact b) h) (k (b.marks ∷ []) (made_intact b) h)

    loops_same : (k : ℕ) (marks : List (List Bool)) (a : AbstractStack) → HasFewMarks a → loops_within step k marks a ≡ loops_within other k marks a
    loops_same zero marks a h = refl
    loops_same (suc k) marks a h =
        lands_same (step a).ok (step a).err (step a).still marks (λ l b. loops_within step k l b) (λ l b. loops_within other k l b) (few a h).0 (λ l b i. loops_same k l b i)
        ∙ ap (λ r. lands r.ok r.err r.still marks (λ l b. loops_within other k l b)) (same a h)

  from_same : (q : Option AbstractStack) (f g : AbstractStack → Reading) → FewWhere q → ((a : AbstractStack) → HasFewMarks a → f a ≡ g a) → from q f ≡ from q g
  from_same None f g h k = refl
  from_same (Some a) f g h k = k a h

  module _ (skips : Bool) (named other : Text → AbstractStack → Reading) (names : (t : Text) → LeadsToFew (named t))
      (alike : (t : Text) (a : AbstractStack) → HasFewMarks a → named t a ≡ other t a) where
    repeated : (e : Expression) (cs : List Copy) → ((a : AbstractStack) → HasFewMarks a → reading m skips named e a ≡ reading n skips other e a)
        → (a : AbstractStack) → HasFewMarks a → walked m (λ b. reading m skips named e b) skips a cs ≡ walked n (λ b. reading n skips other e b) skips a cs
    repeated e cs k a h = walked_same (λ b. reading m skips named e b) (λ b. reading n skips other e b) (λ b i. expression_few m skips named names e b i) k skips cs a h

    expression_same : (e : Expression) (a : AbstractStack) → HasFewMarks a → reading m skips named e a ≡ reading n skips other e a
    expression_same (Str t) a h = refl
    expression_same (Insens t) a h = refl
    expression_same (Range b c) a h = refl
    expression_same (Ident t) a h = alike t a h
    expression_same (PeekSlice i j) a h = refl
    expression_same (PosPred e) a h = ap (λ r. ahead_reading a r) (expression_same e a h)
    expression_same (NegPred e) a h = ap (λ r. not_ahead_reading a r) (expression_same e a h)
    expression_same (Seq d e) a h =
        let r = reading m skips named d a in
        ap (λ q. seq_reading skips a r q) (from_same r.ok (λ b. reading m skips named e b) (λ b. reading n skips other e b) (expression_few m skips named names d a h).0 (λ b i. expression_same e b i))
        ∙ ap (λ r. seq_reading skips a r (from r.ok (λ b. reading n skips other e b))) (expression_same d a h)
    expression_same (Choice d e) a h =
        let r = reading m skips named d a in
        ap (λ q. choice_reading a r q) (from_same (failed r.err a) (λ b. reading m skips named e b) (λ b. reading n skips other e b) (failed_few r.err a (expression_few m skips named names d a h).1) (λ b i. expression_same e b i))
        ∙ ap (λ r. choice_reading a r (from (failed r.err a) (λ b. reading n skips other e b))) (expression_same d a h)
    expression_same (Opt e) a h = ap (λ r. opt_reading a r) (expression_same e a h)
    expression_same (Rep e) a h = repeated e (Endless ∷ []) (λ b i. expression_same e b i) a h
    expression_same (RepOnce e) a h = repeated e (Required ∷ Endless ∷ []) (λ b i. expression_same e b i) a h
    expression_same (RepExact e i) a h = repeated e (replicate i Required) (λ b i. expression_same e b i) a h
    expression_same (RepMin e i) a h = repeated e (at_least_copies i) (λ b i. expression_same e b i) a h
    expression_same (RepMax e i) a h = repeated e (replicate i Optional) (λ b i. expression_same e b i) a h
    expression_same (RepMinMax e i j) a h = repeated e (from_to_copies i j) (λ b i. expression_same e b i) a h
    expression_same (Skip ts) a h = refl
    expression_same (Push e) a h = ap (λ r. pushed_reading r) (expression_same e a h)
    expression_same (PushLiteral t) a h = refl
    expression_same (NodeTag e t) a h = expression_same e a h
    expression_same (RestoreOnErr e) a h = expression_same e a h

  module _ (skips : Bool) (recursive : Text → Bool) (g : Grammar) where
    rule_same : (t : Text) (q : Option Rule) (f h : Expression → AbstractStack → Reading) (a : AbstractStack) → ((e : Expression) → f e a ≡ h e a)
        → rule_reading m skips recursive g t q f a ≡ rule_reading n skips recursive g t q h a
    rule_same t None f h a k = refl
    rule_same t (Some r) f h a k = ap (λ x. if recursive t then anything else x) (k r.body)

    name_same : (k : ℕ) (t : Text) (a : AbstractStack) → HasFewMarks a → name_reading m skips recursive g k t a ≡ name_reading n skips recursive g k t a
    name_same zero t a h = rule_same t (rule_of g t) (λ e b. anything) (λ e b. anything) a (λ e. refl)
    name_same (suc k) t a h =
        rule_same t (rule_of g t) (λ e b. reading m skips (name_reading m skips recursive g k) e b) (λ e b. reading n skips (name_reading n skips recursive g k) e b) a
        (λ e. expression_same skips (name_reading m skips recursive g k) (name_reading n skips recursive g k) (name_few m skips recursive g k) (name_same k) e a h)

  -- readings
  pub reading_same : (recursive : Text → Bool) (g : Grammar) (e : Expression) (a : AbstractStack) → HasFewMarks a → reading_in m recursive g e a ≡ reading_in n recursive g e a
  reading_same recursive g e a h =
      expression_same (skips_in g) (name_reading m (skips_in g) recursive g (length g)) (name_reading n (skips_in g) recursive g (length g))
      (name_few m (skips_in g) recursive g (length g)) (name_same (skips_in g) recursive g (length g)) e a h

  module _ (turns : ℕ) (read other : Spanned → AbstractStack → Reading) (few : (x : Spanned) → LeadsToFew (read x))
      (same : (x : Spanned) (a : AbstractStack) → HasFewMarks a → read x a ≡ other x a) (nullable : Spanned → Bool) where
    abbrev Few : (AbstractStack → Type 0) → Type 0
    Few S = (a : AbstractStack) → S a → HasFewMarks a

    turn_starts_few : (x : Spanned) (k : ℕ) (seen : List AbstractStack) (q : Option AbstractStack) (b : AbstractStack) → FewWhere q → In b (turn_starts (read x) k seen q) → HasFewMarks b
    unfolding turn_starts
    turn_starts_few x zero seen q b h i = absurd i
    turn_starts_few x (suc k) seen None b h i = absurd i
    turn_starts_few x (suc k) seen (Some a) b h i = go (is_among seen a) i (λ j. turn_starts_few x k (a ∷ seen) (read x a).ok b (few x a h).0 j)
      where
        go : (p : Bool) → In b (if p then [] else a ∷ turn_starts (read x) k (a ∷ seen) (read x a).ok) → (In b (turn_starts (read x) k (a ∷ seen) (read x a).ok) → HasFewMarks b) → HasFewMarks b
        go true j f = absurd j
        go false (inl e) f = subst (λ c. HasFewMarks c) (sym e) h
        go false (inr j) f = f j

    starts_few : (x : Spanned) (cs : List Copy) (q : Option AbstractStack) (b : AbstractStack) → FewWhere q → In b (starts m (read x) cs q) → HasFewMarks b
    starts_few x [] q b h i = absurd i
    starts_few x (c ∷ cs) None b h i = absurd i
    starts_few x (Required ∷ cs) (Some a) b h (inl e) = subst (λ c. HasFewMarks c) (sym e) h
    starts_few x (Required ∷ cs) (Some a) b h (inr i) = starts_few x cs (read x a).ok b (few x a h).0 i
    starts_few x (Optional ∷ cs) (Some a) b h (inl e) = subst (λ c. HasFewMarks c) (sym e) h
    starts_few x (Optional ∷ cs) (Some a) b h (inr i) = starts_few x cs (tried a (read x a)) b (tried_few m (read x) (few x) a h) i
    starts_few x (Endless ∷ cs) (Some a) b h i = turn_starts_few x m [] (Some a) b h i

    behind_few : (c : Bool) (r : Reading) (a b : AbstractStack) → FewBoth r → next_after c r a ≡ Some b → HasFewMarks b
    behind_few true r a b h e = subst (λ q. FewWhere q) e (failed_few r.err a h.1)
    behind_few false r a b h e = subst (λ q. FewWhere q) e h.0

    same_starts : (x : Spanned) (cs : List Copy) (a : AbstractStack) → HasFewMarks a → starts m (read x) cs (Some a) ≡ starts n (other x) cs (Some a)
    same_starts x cs a h = starts_same (read x) (other x) (few x) (same x) cs (Some a) h

    same_loops : (x : Spanned) (a : AbstractStack) → HasFewMarks a → loops turns (read x) a ≡ loops turns (other x) a
    same_loops x a h = loops_same (read x) (other x) (few x) (same x) turns (a.marks ∷ []) (made_intact a) h

    reports_same : (x : Spanned) (S T : AbstractStack → Type 0) (ts : List Span) → Few S → ((a : AbstractStack) → S a → T a) → ((a : AbstractStack) → T a → S a)
        → ReportedIn m turns read nullable S x ts → ReportedIn n turns other nullable T x ts
    reports_same (Leaf t e) S T ts k f g h = h
    reports_same (One t u x) S T ts k f g (us, r, own) = (
      us,
      reports_same x (Inside m turns read nullable S u x) (Inside n turns other nullable T u x) us
          (λ b s. starts_few x (copies_of u) (Some s.0) b (k s.0 s.1) s.2)
          (λ b s. (s.0, f s.0 s.1, subst (λ l. In b l) (same_starts x (copies_of u) s.0 (k s.0 s.1)) s.2))
          (λ b s. (s.0, g s.0 s.1, subst (λ l. In b l) (sym (same_starts x (copies_of u) s.0 (k s.0 (g s.0 s.1)))) s.2)) r,
      elim own [
        | inl p ↦ inl (p.0, p.1, there p.2, p.3)
        | inr p ↦ inr (λ e i l. p.0 e i (back l), p.1)
      ],
    )
      where
        there : SomeLoop m turns read nullable S x → SomeLoop n turns other nullable T x
        there l = (l.0, f l.0 l.1, sym (same_loops x l.0 (k l.0 l.1)) ∙ l.2)

        back : SomeLoop n turns other nullable T x → SomeLoop m turns read nullable S x
        back l = (l.0, g l.0 l.1, same_loops x l.0 (k l.0 (g l.0 l.1)) ∙ l.2)
    reports_same (Two t u x y) S T ts k f g (us, vs, r, q, e) = (
      us,
      vs,
      reports_same x S T us k f g r,
      reports_same y (AfterFirst m turns read nullable S u x) (AfterFirst n turns other nullable T u x) vs
          (λ b s. behind_few (is_choice u) (read x s.0) s.0 b (few x s.0 (k s.0 s.1)) s.2)
          (λ b s. (s.0, f s.0 s.1, ap (λ z. next_after (is_choice u) z s.0) (sym (same x s.0 (k s.0 s.1))) ∙ s.2))
          (λ b s. (s.0, g s.0 s.1, ap (λ z. next_after (is_choice u) z s.0) (same x s.0 (k s.0 (g s.0 s.1))) ∙ s.2)) q,
      e,
    )

  -- reports
  pub reported_same : (turns : ℕ) (recursive : Text → Bool) (g : Grammar) (nullable : Spanned → Bool) (x : Spanned) (ts : List Span)
      → ReportedFrom m turns recursive g nullable x ts → ReportedFrom n turns recursive g nullable x ts
  reported_same turns recursive g nullable x ts h =
      reports_same turns (λ y. reading_in m recursive g (without_spans y)) (λ y. reading_in n recursive g (without_spans y))
      (λ y. reading_few m (skips_in g) recursive g (length g) (without_spans y)) (λ y a i. reading_same recursive g (without_spans y) a i) nullable
      x (λ a. a ≡ entry) (λ a. a ≡ entry) ts (λ a e. subst (λ b. HasFewMarks b) (sym e) entry_few) (λ a e. e) (λ a e. e) h
    where
      entry_few : HasFewMarks entry
      entry_few = omega arith
