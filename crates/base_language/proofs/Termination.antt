-- In a well-formed plain grammar everything ends.
use Rattle.std.proofs.Common.{◌≡◌, inl, inr, ℕ, zero, suc, ◌-◌, ◌<◌, ◌≤◌, min, List, [], ◌∷◌, Bool, true, false, ◌||◌, if◌then◌else◌, Option, Some, None, refl, sym, ◌∙◌, ap, subst, bytes_eq, arith}
use Rattle.base_language.specs.Language.Expression.{Grammar, Expression, Str, Insens, Range, Ident, PeekSlice, PosPred, NegPred, Seq, Choice, Opt, Rep, RepOnce, RepExact, RepMin, RepMax, RepMinMax, Skip, Push, RestoreOnErr, RuleType, Normal, Silent, Atomic, CompoundAtomic, NonAtomic, Rule, rule_of, whitespace, comment, Part, whole, of_pos_pred, of_neg_pred, of_seq_left, of_seq_right, of_choice_left, of_choice_right, of_opt, of_rep, of_rep_once, of_rep_exact, of_rep_min, of_rep_max, of_rep_min_max, of_push, of_restore, or_else, PushLiteral, NodeTag, of_tag}
use Rattle.base_language.specs.Language.State.{Classes, Mode, NonAtomicMode, AtomicMode, CompoundAtomicMode, Between, State, Trees, Outcome, Success, Failure}
use Rattle.base_language.specs.Language.Text.{Text}
use Rattle.base_language.specs.Language.Builtins.{builtin_of, Builtin, One, Property, Newline, Soi, Eoi, Peek, Pop, Drop, PeekAll, PopAll}
use Rattle.base_language.specs.Language.Matching.{other_outcome, named_outcome, builtin_outcome}
use Rattle.base_language.specs.Language.Meaning.{Does, Task, Run, Turns, Skipping, str, insens, range, slice, skip, call, other, pos_pred, neg_pred, push, restore, seq, seq_first, seq_second, left, right, opt, opt_none, rep_none, turn, turn_none, rep_exact, rep_max, rep_min_max, skips, atomic, compound_atomic, between, body_mode, mode_in, in_sequence, skipped, rep, rep_once, rep_min, push_literal, tag}
use Rattle.base_language.specs.Language.WellFormed.{IsNullable, LeftCalls, left_name, left_first, left_second, left_pos_pred, left_neg_pred, left_left, left_right, left_opt, left_rep, left_rep_once, left_rep_exact, left_rep_min, left_rep_max, left_rep_min_max, left_push, left_restore, NamesHaveReadableCounts, IsWellFormed, IsPlainBuiltin, HasOutcome, InRules, IsPlainName, of_rule, of_builtin, IsSkipped, is_whitespace, is_comment, Reaches, itself, onward, nullable_seq, IsPlain, left_tag}
use Rattle.base_language.proofs.Grounding.{Grounded, grounded, all_grounded}
use Rattle.base_language.proofs.Moving.{Goes, goes, goes_down, left_of, moves, Calm, CalmHere, Each', no_more, also, calm_seq, calm_opt, calm_rep, calm_empty, calm_skipped, each_copy, each_of_both, in_all}
use Rattle.base_language.proofs.Basics.{same_some}

module _ (g : Grammar) (classes : Classes) (calm : (n : Text) (r : Rule) → rule_of g n ≡ Some r → Calm g classes r.body) where
  abbrev Has : Task → State → Type 0
  Has k s = (o : Outcome) × Does g classes k s o

  skipping_goes_on : {m : Mode} {s : State} → Does g classes (Skipping m) s Failure → ⊥
  skipping_goes_on (skips (seq_first a)) = elim a [ ]
  skipping_goes_on (skips (seq_second a k b)) = elim b [ ]

  -- with up to t characters left, in one mode
  abbrev EndsTo : ℕ → Mode → Expression → Type 0
  EndsTo t m e = (s : State) → left_of s ≤ t → Has (Run m e) s

  module _ (t : ℕ) (m : Mode) (skipping : (s : State) → Has (Skipping m) s) where
    abbrev Ends : Expression → Type 0
    Ends e = EndsTo t m e

    abbrev EndsBelow : Expression → Type 0
    EndsBelow e = (s : State) → left_of s < t → Has (Run m e) s

    module _ (a b : Expression) (c : Calm g classes a) (ends : IsNullable g a → Ends b) (below : EndsBelow b) where
      seq_last : (s u v : State) (us vs : Trees) → Does g classes (Run m a) s (Success u us) → Does g classes (Skipping m) u (Success v vs) → (o : Outcome) → Does g classes (Run m b) v o → Has (Run m (Seq a b)) s
      seq_last s u v us vs d k Failure e = (_, seq_second d k e)
      seq_last s u v us vs d k (Success w ws) e = (_, seq d k e)

      second : (s u v : State) → left_of s ≤ t → Goes (IsNullable g a) (left_of s) (left_of u) → Goes (Unit {0}) (left_of u) (left_of v) → Has (Run m b) v
      second s u v h (inl l) k = let i = goes_down k in below v (omega arith)
      second s u v h (inr (n)) k = let i = goes_down k in let j = n.1 in ends n.0 v (omega arith)

      seq_then : (s u : State) (us : Trees) → left_of s ≤ t → Does g classes (Run m a) s (Success u us) → (o : Outcome) → Does g classes (Skipping m) u o → Has (Run m (Seq a b)) s
      seq_then s u us h d Failure k = absurd (skipping_goes_on k)
      seq_then s u us h d (Success v vs) k =
          let e = second s u v h (goes (moves g classes calm d c)) (goes (moves g classes calm k tt)) in
          seq_last s u v us vs d k e.0 e.1

      seq_from : (s : State) → left_of s ≤ t → (o : Outcome) → Does g classes (Run m a) s o → Has (Run m (Seq a b)) s
      seq_from s h Failure d = (_, seq_first d)
      seq_from s h (Success u us) d = let k = skipping u in seq_then s u us h d k.0 k.1

      seq_ends : Ends a → Ends (Seq a b)
      seq_ends i s h = let d = i s h in seq_from s h d.0 d.1

    right_from : {a b : Expression} (s : State) → Has (Run m b) s → (o : Outcome) → Does g classes (Run m a) s o → Has (Run m (Choice a b)) s
    right_from s e Failure d = (_, right d e.1)
    right_from s e (Success u us) d = (_, left d)

    opt_from : {e : Expression} (s : State) (o : Outcome) → Does g classes (Run m e) s o → Has (Run m (Opt e)) s
    opt_from s Failure d = (_, opt_none d)
    opt_from s (Success u us) d = (_, opt d)

    module _ (e : Expression) (c : Calm g classes e) (takes : IsNullable g e → ⊥) (below : (s : State) → left_of s < t → Has (Turns m e) s) where
      fewer : (s u : State) → Goes (IsNullable g e) (left_of s) (left_of u) → left_of u < left_of s
      fewer s u (inl h) = h
      fewer s u (inr n) = absurd (takes n.0)

      rep_then : (s u : State) (us : Trees) → Does g classes (Run m e) s (Success u us) → (o : Outcome) → Does g classes (Turns m e) u o → Has (Run m (Rep e)) s
      rep_then s u us d Failure k = elim k [ ]
      rep_then s u us d (Success v vs) k = (_, rep d k)

      rep_from : (s : State) → left_of s ≤ t → (o : Outcome) → Does g classes (Run m e) s o → Has (Run m (Rep e)) s
      rep_from s h Failure d = (_, rep_none d)
      rep_from s h (Success u us) d =
          let f = fewer s u (goes (moves g classes calm d c)) in
          let k = below u (omega arith) in
          rep_then s u us d k.0 k.1

      rep_ends : Ends e → Ends (Rep e)
      rep_ends i s h = let d = i s h in rep_from s h d.0 d.1

      turn_then : (s u v : State) (us vs : Trees) → Does g classes (Skipping m) s (Success u us) → Does g classes (Run m e) u (Success v vs) → (o : Outcome) → Does g classes (Turns m e) v o → Has (Turns m e) s
      turn_then s u v us vs k d Failure f = elim f [ ]
      turn_then s u v us vs k d (Success w ws) f = (_, turn k d f)

      turn_from : (s u : State) (us : Trees) → left_of u ≤ t → Does g classes (Skipping m) s (Success u us) → (o : Outcome) → Does g classes (Run m e) u o → Has (Turns m e) s
      turn_from s u us h k Failure d = (_, turn_none k d)
      turn_from s u us h k (Success v vs) d =
          let f = fewer u v (goes (moves g classes calm d c)) in
          let i = below v (omega arith) in
          turn_then s u v us vs k d i.0 i.1

      turns_from : Ends e → (s : State) → left_of s ≤ t → (o : Outcome) → Does g classes (Skipping m) s o → Has (Turns m e) s
      turns_from i s h Failure k = absurd (skipping_goes_on k)
      turns_from i s h (Success u us) k =
          let l = goes_down (goes (moves g classes calm k tt)) in
          let d = i u (omega arith) in
          turn_from s u us (omega arith) k d.0 d.1

      turns_end : Ends e → (s : State) → left_of s ≤ t → Has (Turns m e) s
      turns_end i s h = let k = skipping s in turns_from i s h k.0 k.1

  -- modes in which the skipping ends, and the names that may be called there
  module _ (Allowed : Mode → Type 0) (Callable : Mode → Text → Type 0) where
    abbrev OkHere : Mode → Expression → Type 0
    OkHere m (Ident n) = Callable m n
    OkHere m (Rep e) = IsNullable g e → ⊥
    OkHere m (RepOnce e) = IsNullable g e → ⊥
    OkHere m (RepMin e i) = IsNullable g e → ⊥
    OkHere m _ = Unit {0}

    abbrev Ok : Mode → Expression → Type 0
    Ok m e = (p : Expression) → Part e p → CalmHere g classes p × OkHere m p

    calm_of : {m : Mode} {e : Expression} → Ok m e → Calm g classes e
    calm_of k p h = (k p h).0

    abbrev OkTask : Task → Type 0
    OkTask (Run m e) = Allowed m × Ok m e
    OkTask (Turns m e) = Allowed m × Ok m (Rep e)
    OkTask (Skipping m) = Allowed m

    module _
        (bodies : (m : Mode) (n : Text) (r : Rule) → Allowed m → Callable m n → rule_of g n ≡ Some r → Allowed (body_mode r m) × Ok (body_mode r m) r.body)
        (others : (m : Mode) (n : Text) (s : State) → Allowed m → Callable m n → rule_of g n ≡ None → (o : Outcome) × (other_outcome classes m n s ≡ Some o))
        (skipping : (m : Mode) → Allowed m → (s : State) → Has (Skipping m) s)
        (ground : (n : Text) → Grounded g n) where
      module _ (t : ℕ) (below : (k : Task) → OkTask k → (s : State) → left_of s < t → Has k s) where
        abbrev CallsEnd : Mode → Expression → Type 0
        CallsEnd m e = (n : Text) → LeftCalls g e n → Callable m n → EndsTo t m (Ident n)

        module _ (m : Mode) (allowed : Allowed m) where
          -- calm, and ending
          abbrev Good : Expression → Type 0
          Good e = Calm g classes e × EndsTo t m e

          below_of : {e : Expression} → Ok m e → (s : State) → left_of s < t → Has (Run m e) s
          below_of k s h = below (Run m _) (allowed, k) s h

          good_seq : (a b : Expression) → Good a → Good b → Good (Seq a b)
          good_seq a b i j = (calm_seq g classes a b i.0 j.0, seq_ends t m (skipping m allowed) a b i.0 (λ n. j.1) (λ s h. j.1 s (omega arith)) i.1)

          good_opt : {e : Expression} → Good e → Good (Opt e)
          good_opt i = (calm_opt g classes i.0, (λ s h. let d = i.1 s h in opt_from t m (skipping m allowed) s d.0 d.1))

          good_all : {es : List Expression} → Each' Good es → EndsTo t m (in_sequence es)
          good_all e = (in_all Good (calm_empty g classes, (λ s h. (_, str))) good_seq e).1

          ok_rep : {e : Expression} → (IsNullable g e → ⊥) → Ok m e → Ok m (Rep e)
          ok_rep n k p whole = (tt, n)
          ok_rep n k p (of_rep h) = k p h

          good_rep : (e : Expression) → Good e → Ok m (Rep e) → Good (Rep e)
          good_rep e i k = (calm_rep g classes i.0, rep_ends t m (skipping m allowed) e i.0 (k _ whole).1 (λ s h. below (Turns m e) (allowed, k) s h) i.1)

          run_ends : (e : Expression) → Ok m e → CallsEnd m e → EndsTo t m e
          run_ends (Str x) k c s h = (_, str)
          run_ends (Insens x) k c s h = (_, insens)
          run_ends (Range a b) k c s h = (_, range)
          run_ends (Ident n) k c s h = c n left_name (k _ whole).1 s h
          run_ends (PeekSlice i j) k c s h = (_, slice)
          run_ends (PosPred e) k c s h = let i : EndsTo t m e = run_ends e (λ p h. k p (of_pos_pred h)) (λ n l. c n (left_pos_pred l)) in (_, pos_pred (i s h).1)
          run_ends (NegPred e) k c s h = let i : EndsTo t m e = run_ends e (λ p h. k p (of_neg_pred h)) (λ n l. c n (left_neg_pred l)) in (_, neg_pred (i s h).1)
          run_ends (Push e) k c s h = let i : EndsTo t m e = run_ends e (λ p h. k p (of_push h)) (λ n l. c n (left_push l)) in (_, push (i s h).1)
          run_ends (PushLiteral x) k c s h = (_, push_literal)
          run_ends (NodeTag e x) k c s h = let i : EndsTo t m e = run_ends e (λ p h. k p (of_tag h)) (λ n l. c n (left_tag l)) in (_, tag (i s h).1)
          run_ends (RestoreOnErr e) k c s h = let i : EndsTo t m e = run_ends e (λ p h. k p (of_restore h)) (λ n l. c n (left_restore l)) in (_, restore (i s h).1)
          run_ends (Skip ts) k c s h = (_, skip)
          run_ends (Seq a b) k c s h =
              let j : Ok m a = λ p h. k p (of_seq_left h) in
              let l : Ok m b = λ p h. k p (of_seq_right h) in
              seq_ends t m (skipping m allowed) a b (calm_of j) (λ n. run_ends b l (λ q d. c q (left_second n d))) (below_of l) (run_ends a j (λ q d. c q (left_first d))) s h
          run_ends (Choice a b) k c s h =
              let i : EndsTo t m a = run_ends a (λ p h. k p (of_choice_left h)) (λ n l. c n (left_left l)) in
              let j : EndsTo t m b = run_ends b (λ p h. k p (of_choice_right h)) (λ n l. c n (left_right l)) in
              right_from t m (skipping m allowed) s (j s h) (i s h).0 (i s h).1
          run_ends (Opt e) k c s h = let i : EndsTo t m e = run_ends e (λ p h. k p (of_opt h)) (λ n l. c n (left_opt l)) in opt_from t m (skipping m allowed) s (i s h).0 (i s h).1
          run_ends (Rep e) k c s h = let j : Ok m e = λ p h. k p (of_rep h) in let i : Good e = (calm_of j, run_ends e j (λ n l. c n (left_rep l))) in (good_rep e i k).1 s h
          run_ends (RepOnce e) k c s h = let j : Ok m e = λ p h. k p (of_rep_once h) in let i : Good e = (calm_of j, run_ends e j (λ n l. c n (left_rep_once l))) in
              let d = (good_seq e (Rep e) i (good_rep e i (ok_rep (k _ whole).1 j))).1 s h in (_, rep_once d.1)
          run_ends (RepExact e n) k c s h = let j : Ok m e = λ p h. k p (of_rep_exact h) in let i : Good e = (calm_of j, run_ends e j (λ n l. c n (left_rep_exact l))) in
              let d = good_all (each_copy Good n i) s h in (_, rep_exact d.1)
          run_ends (RepMin e n) k c s h = let j : Ok m e = λ p h. k p (of_rep_min h) in let i : Good e = (calm_of j, run_ends e j (λ n l. c n (left_rep_min l))) in
              let d = good_all (each_of_both Good (each_copy Good n i) (also (good_rep e i (ok_rep (k _ whole).1 j)) no_more)) s h in (_, rep_min d.1)
          run_ends (RepMax e n) k c s h = let j : Ok m e = λ p h. k p (of_rep_max h) in let i : Good e = (calm_of j, run_ends e j (λ n l. c n (left_rep_max l))) in
              let d = good_all (each_copy Good n (good_opt i)) s h in (_, rep_max d.1)
          run_ends (RepMinMax e l n) k c s h = let j : Ok m e = λ p h. k p (of_rep_min_max h) in let i : Good e = (calm_of j, run_ends e j (λ n l. c n (left_rep_min_max l))) in
              let d = good_all (each_of_both Good (each_copy Good (min l n) i) (each_copy Good (n - l) (good_opt i))) s h in (_, rep_min_max d.1)

        call_ends : (m : Mode) (allowed : Allowed m) (n : Text) → Callable m n → ((r : Rule) (k : Text) → rule_of g n ≡ Some r → LeftCalls g r.body k → (m : Mode) → Allowed m → Callable m k → EndsTo t m (Ident k)) → (q : Option Rule) → rule_of g n ≡ q → EndsTo t m (Ident n)
        call_ends m a n c f None e s h = let o = others m n s a c e in (_, other e o.1)
        call_ends m a n c f (Some r) e s h =
            let b = bodies m n r a c e in
            let d = run_ends (body_mode r m) b.0 r.body b.1 (λ k l i. f r k e l (body_mode r m) b.0 i) s h in
            (_, call e d.1)

        calls_end : {n : Text} → Grounded g n → (m : Mode) → Allowed m → Callable m n → EndsTo t m (Ident n)
        calls_end {n} (grounded f) m a c = call_ends m a n c (λ r k e l m b i. calls_end (f r k e l) m b i) (rule_of g n) refl

        tasks_end : (k : Task) → OkTask k → (s : State) → left_of s ≤ t → Has k s
        tasks_end (Run m e) k s h = run_ends m k.0 e k.1 (λ n l c. calls_end (ground n) m k.0 c) s h
        tasks_end (Turns m e) k s h =
            let j : Ok m e = λ p h. k.1 p (of_rep h) in
            turns_end t m (skipping m k.0) e (calm_of j) (k.1 _ whole).1 (λ s h. below (Turns m e) k s h) (run_ends m k.0 e j (λ n l c. calls_end (ground n) m k.0 c)) s h
        tasks_end (Skipping m) k s h = skipping m k s

      all_end : (t : ℕ) (k : Task) → OkTask k → (s : State) → left_of s ≤ t → Has k s
      all_end zero k o s h = tasks_end zero (λ k o s h. absurd (omega arith)) k o s h
      all_end (suc t) k o s h = tasks_end (suc t) (λ k o s h. all_end t k o s (omega arith)) k o s h

-- the modes in which nothing is skipped
abbrev Quiet : Mode → Type 0
Quiet NonAtomicMode = ⊥
Quiet AtomicMode = Unit {0}
Quiet CompoundAtomicMode = Unit {0}
Quiet Between = ⊥

quiet_body : (y : RuleType) (b : Bool) (m : Mode) → (y ≡ NonAtomic → ⊥) → Quiet m → Quiet (mode_in y b m)
quiet_body Normal true m n q = tt
quiet_body Normal false NonAtomicMode n q = q
quiet_body Normal false AtomicMode n q = tt
quiet_body Normal false CompoundAtomicMode n q = tt
quiet_body Normal false Between n q = q
quiet_body Silent true m n q = tt
quiet_body Silent false NonAtomicMode n q = q
quiet_body Silent false AtomicMode n q = tt
quiet_body Silent false CompoundAtomicMode n q = tt
quiet_body Silent false Between n q = q
quiet_body Atomic b m n q = tt
quiet_body CompoundAtomic b m n q = tt
quiet_body NonAtomic b m n q = absurd (n refl)

quiet_skipped : (y : RuleType) (b : Bool) (m : Mode) → b ≡ true → Quiet (mode_in y b m)
quiet_skipped y false m e = cc
quiet_skipped Normal true m e = tt
quiet_skipped Silent true m e = tt
quiet_skipped Atomic true m e = tt
quiet_skipped CompoundAtomic true m e = tt
quiet_skipped NonAtomic true m e = tt

pub rule_name : (g : Grammar) (n : Text) (r : Rule) → rule_of g n ≡ Some r → bytes_eq r.name n ≡ true
rule_name [] n r h = cc
rule_name (q ∷ g) n r h = go (rule_of g n) refl h (λ h. rule_name g n r h)
  where
    here : (b : Bool) → bytes_eq q.name n ≡ b → (if b then Some q else None) ≡ Some r → bytes_eq r.name n ≡ true
    here true e h = subst (λ r. bytes_eq r.name n ≡ true) (same_some h) e
    here false e h = cc

    go : (o : Option Rule) → rule_of g n ≡ o → or_else o (if bytes_eq q.name n then Some q else None) ≡ Some r → (rule_of g n ≡ Some r → bytes_eq r.name n ≡ true) → bytes_eq r.name n ≡ true
    go (Some p) e h f = f (e ∙ h)
    go None e h f = here (bytes_eq q.name n) refl h

pub or_true : (b : Bool) → (b || true) ≡ true
or_true true = refl
or_true false = refl

is_skipped : (g : Grammar) (n : Text) (r : Rule) → IsSkipped n → rule_of g n ≡ Some r → (bytes_eq r.name whitespace || bytes_eq r.name comment) ≡ true
is_skipped g _ r is_whitespace h = ap (λ b. b || bytes_eq r.name comment) (rule_name g whitespace r h)
is_skipped g _ r is_comment h = ap (λ b. bytes_eq r.name whitespace || b) (rule_name g comment r h) ∙ or_true (bytes_eq r.name whitespace)

module _ (g : Grammar) (classes : Classes) (counted : NamesHaveReadableCounts g) (w : IsWellFormed g) (p : IsPlain g) where
  plain_builtin : {n : Text} {b : Builtin} → IsPlainName g n → rule_of g n ≡ None → builtin_of n ≡ Some b → IsPlainBuiltin b
  plain_builtin (of_rule h) e f = cc
  plain_builtin (of_builtin h i) e f = subst IsPlainBuiltin (same_some (sym h ∙ f)) i

  calm_here : (q : Expression) → InRules g q → CalmHere g classes q
  calm_here (Ident n) i = λ e b f. plain_builtin (p.names n i) e f
  calm_here (PeekSlice i j) k = p.slices i j k
  calm_here (RepMinMax e i j) k = counted (RepMinMax e i j) k
  calm_here _ i = tt

  calm_body : (n : Text) (r : Rule) → rule_of g n ≡ Some r → Calm g classes r.body
  calm_body n r h q i = calm_here q (n, r, h, i)

  ok_here : (A : Mode → Type 0) (C : Mode → Text → Type 0) (m : Mode) (q : Expression) → InRules g q → ((n : Text) → InRules g (Ident n) → q ≡ Ident n → C m n) → OkHere g classes calm_body A C m q
  ok_here A C m (Ident n) i f = f n i refl
  ok_here A C m (Rep e) i f = w.rep e i
  ok_here A C m (RepOnce e) i f = w.rep_once e i
  ok_here A C m (RepMin e n) i f = w.rep_min e n i
  ok_here A C m _ i f = tt

  plain_does : (m : Mode) (b : Builtin) (s : State) → IsPlainBuiltin b → (o : Outcome) × (builtin_outcome classes m b s ≡ Some o)
  plain_does m (One set) s i = (_, refl)
  plain_does m (Property n) s i = (_, refl)
  plain_does m Newline s i = (_, refl)
  plain_does m Soi s i = (_, refl)
  plain_does m Eoi s i = (_, refl)
  plain_does m Peek s i = absurd i
  plain_does m Pop s i = absurd i
  plain_does m Drop s i = absurd i
  plain_does m PeekAll s i = absurd i
  plain_does m PopAll s i = absurd i

  named_does : (m : Mode) (n : Text) (s : State) → IsPlainName g n → rule_of g n ≡ None → (o : Outcome) × (named_outcome classes m (builtin_of n) s ≡ Some o)
  named_does m n s (of_rule h) e = cc
  named_does m n s (of_builtin {b = b} h i) e = subst (λ q. (o : Outcome) × (named_outcome classes m q s ≡ Some o)) (sym h) (plain_does m b s i)

  -- first the skipping, which runs nothing in NonAtomic
  abbrev Reached : Text → Type 0
  Reached n = (k : Text) × IsSkipped k × Reaches g k n

  abbrev Allowed₁ : Mode → Type 0
  Allowed₁ NonAtomicMode = ⊥
  Allowed₁ _ = Unit {0}

  abbrev Callable₁ : Mode → Text → Type 0
  Callable₁ NonAtomicMode n = ⊥
  Callable₁ AtomicMode n = IsPlainName g n × Reached n
  Callable₁ CompoundAtomicMode n = IsPlainName g n × Reached n
  Callable₁ Between n = IsSkipped n

  quiet_allowed : (m : Mode) → Quiet m → Allowed₁ m
  quiet_allowed NonAtomicMode q = q
  quiet_allowed AtomicMode q = tt
  quiet_allowed CompoundAtomicMode q = tt
  quiet_allowed Between q = tt

  quiet_callable : (m : Mode) (n : Text) → Quiet m → IsPlainName g n × Reached n → Callable₁ m n
  quiet_callable NonAtomicMode n q c = q
  quiet_callable AtomicMode n q c = c
  quiet_callable CompoundAtomicMode n q c = c
  quiet_callable Between n q c = absurd q

  abbrev Ok₁ : Mode → Expression → Type 0
  Ok₁ m e = Ok g classes calm_body Allowed₁ Callable₁ m e

  quiet_ok : (m : Mode) (n : Text) (r : Rule) → Quiet m → Reached n → rule_of g n ≡ Some r → Allowed₁ m × Ok₁ m r.body
  quiet_ok m n r q c e = (quiet_allowed m q, (λ x i. (calm_here x (n, r, e, i), ok_here Allowed₁ Callable₁ m x (n, r, e, i) (λ k j f. quiet_callable m k q (p.names k j, (c.0, c.1, onward c.2 e (subst (λ y. Part r.body y) f i)))))))

  bodies₁ : (m : Mode) (n : Text) (r : Rule) → Allowed₁ m → Callable₁ m n → rule_of g n ≡ Some r → Allowed₁ (body_mode r m) × Ok₁ (body_mode r m) r.body
  bodies₁ NonAtomicMode n r a c e = absurd a
  bodies₁ AtomicMode n r a c e = let f = c.1 in quiet_ok _ n r (quiet_body r.type_of _ AtomicMode (p.skipping f.0 n r f.1 f.2 e) tt) f e
  bodies₁ CompoundAtomicMode n r a c e = let f = c.1 in quiet_ok _ n r (quiet_body r.type_of _ CompoundAtomicMode (p.skipping f.0 n r f.1 f.2 e) tt) f e
  bodies₁ Between n r a c e = quiet_ok _ n r (quiet_skipped r.type_of _ Between (is_skipped g n r c e)) (n, c, itself) e

  others₁ : (m : Mode) (n : Text) (s : State) → Allowed₁ m → Callable₁ m n → rule_of g n ≡ None → (o : Outcome) × (other_outcome classes m n s ≡ Some o)
  others₁ NonAtomicMode n s a c e = absurd a
  others₁ AtomicMode n s a c e = named_does AtomicMode n s c.0 e
  others₁ CompoundAtomicMode n s a c e = named_does CompoundAtomicMode n s c.0 e
  others₁ Between n s a c e = (_, refl)

  skipping₁ : (m : Mode) → Allowed₁ m → (s : State) → Has g classes calm_body (Skipping m) s
  skipping₁ NonAtomicMode a s = absurd a
  skipping₁ AtomicMode a s = (_, atomic)
  skipping₁ CompoundAtomicMode a s = (_, compound_atomic)
  skipping₁ Between a s = (_, between)

  comment_taken : IsNullable g (Seq (Ident comment) (Rep (Ident whitespace))) → ⊥
  comment_taken (nullable_seq a b) = w.skipping _ is_comment a

  ok_skipped : (q : Expression) → Part skipped q → OkHere g classes calm_body Allowed₁ Callable₁ Between q
  ok_skipped q whole = tt
  ok_skipped q (of_seq_left whole) = w.skipping _ is_whitespace
  ok_skipped q (of_seq_left (of_rep whole)) = is_whitespace
  ok_skipped q (of_seq_right whole) = comment_taken
  ok_skipped q (of_seq_right (of_rep whole)) = tt
  ok_skipped q (of_seq_right (of_rep (of_seq_left whole))) = is_comment
  ok_skipped q (of_seq_right (of_rep (of_seq_right whole))) = w.skipping _ is_whitespace
  ok_skipped q (of_seq_right (of_rep (of_seq_right (of_rep whole)))) = is_whitespace

  skips_end : (s : State) → Has g classes calm_body (Run Between skipped) s
  skips_end s = all_end g classes calm_body Allowed₁ Callable₁ bodies₁ others₁ skipping₁ (all_grounded g w.no_cycle) (left_of s) (Run Between skipped) (tt, (λ q h. (calm_skipped g classes q h, ok_skipped q h))) s (omega arith)

  -- then everything
  abbrev Allowed₂ : Mode → Type 0
  Allowed₂ m = Unit {0}

  abbrev Callable₂ : Mode → Text → Type 0
  Callable₂ Between n = Unit {0}
  Callable₂ _ n = IsPlainName g n

  callable : (m : Mode) (n : Text) → IsPlainName g n → Callable₂ m n
  callable NonAtomicMode n i = i
  callable AtomicMode n i = i
  callable CompoundAtomicMode n i = i
  callable Between n i = tt

  bodies₂ : (m : Mode) (n : Text) (r : Rule) → Allowed₂ m → Callable₂ m n → rule_of g n ≡ Some r → Allowed₂ (body_mode r m) × Ok g classes calm_body Allowed₂ Callable₂ (body_mode r m) r.body
  bodies₂ m n r a c e = (tt, (λ q i. (calm_here q (n, r, e, i), ok_here Allowed₂ Callable₂ (body_mode r m) q (n, r, e, i) (λ k j f. callable (body_mode r m) k (p.names k j)))))

  others₂ : (m : Mode) (n : Text) (s : State) → Allowed₂ m → Callable₂ m n → rule_of g n ≡ None → (o : Outcome) × (other_outcome classes m n s ≡ Some o)
  others₂ NonAtomicMode n s a c e = named_does NonAtomicMode n s c e
  others₂ AtomicMode n s a c e = named_does AtomicMode n s c e
  others₂ CompoundAtomicMode n s a c e = named_does CompoundAtomicMode n s c e
  others₂ Between n s a c e = (_, refl)

  skipping₂ : (m : Mode) → Allowed₂ m → (s : State) → Has g classes calm_body (Skipping m) s
  skipping₂ NonAtomicMode a s = let d = skips_end s in (_, skips d.1)
  skipping₂ AtomicMode a s = (_, atomic)
  skipping₂ CompoundAtomicMode a s = (_, compound_atomic)
  skipping₂ Between a s = (_, between)

  rule_ends : (n : Text) (r : Rule) (m : Mode) (s : State) → rule_of g n ≡ Some r → Has g classes calm_body (Run m (Ident n)) s
  rule_ends n r m s h = all_end g classes calm_body Allowed₂ Callable₂ bodies₂ others₂ skipping₂ (all_grounded g w.no_cycle) (left_of s) (Run m (Ident n)) (tt, ok) s (omega arith)
    where
      ok : (q : Expression) → Part (Ident n) q → CalmHere g classes q × OkHere g classes calm_body Allowed₂ Callable₂ m q
      ok q whole = ((λ e b f. cc), callable m n (of_rule h))

pub ends : (g : Grammar) (classes : Classes) (n : Text) (r : Rule) (m : Mode) (s : State) → NamesHaveReadableCounts g → IsWellFormed g → IsPlain g → rule_of g n ≡ Some r → HasOutcome g classes (Ident n) m s
ends g classes n r m s c w p h = rule_ends g classes c w p n r m s h
