-- Each report is certain.
use Rattle.std.proofs.Common.{◌≡◌, inl, inr, ℕ, zero, suc, List, [], ◌∷◌, ◌++◌, replicate, length, Bool, true, false, if◌then◌else◌, Option, Some, None, refl, sym, ◌∙◌, ap, subst}
use Rattle.base_language.specs.Language.Expression.{Grammar, Expression, Seq, Rep}
use Rattle.base_language.specs.Language.State.{Classes, Mode, IsRuleMode, State, Trees, Outcome, Success, Failure}
use Rattle.base_language.specs.Language.Text.{Text}
use Rattle.base_language.specs.Language.Meaning.{Does, Run, Turns, Skipping, seq, seq_first, seq_second, rep, rep_none, turn, turn_none, rep_once, rep_min, in_sequence}
use Rattle.base_language.proofs.Basics.{same_some}
use Rattle.front_stack_domain.specs.Stack.{Base, AbstractStack, Describes, made_intact, failed, are_among}
use Rattle.front_stack_domain.specs.Reading.{Reading, tried, opt_reading, Copy, Endless, lands, loops_within, loops}
use Rattle.front_stack_domain.specs.Reports.{skips_in, reading_in, Repeats, any_times, once_or_more, at_least, Route, Turn, next, turn_start, Visits, visit, visit_seq_first, visit_seq_second, visit_choice_first, visit_choice_second, visit_opt, visit_push, visit_pos_pred, visit_neg_pred, visit_turn, TurnAt, now, after_required, after_optional, after_turn, ReachesRoute, reach, reach_seq_first, reach_seq_second, reach_choice_first, reach_choice_second, reach_opt, reach_push, reach_pos_pred, reach_neg_pred, reach_turn, IsReport, IsCertain, visit_tag, reach_tag}
use Rattle.front_stack_domain.specs.Stack.{In}
use Rattle.front_stack_domain.proofs.Stacks.{Has, Can, has_failed, marks_among}
use Rattle.front_stack_domain.proofs.Walking.{Agrees, Kept}
use Rattle.front_stack_domain.proofs.Skipping.{kept}
use Rattle.front_stack_domain.proofs.Sound.{IsSound, reading_sound, opt_sound}
use Rattle.front_stack_domain.proofs.Bases.{AllFrom, Keeps, reading_keeps}

abbrev at : Base → List Bool → AbstractStack
at b ms = record { base = b; marks = ms; intact = true }

has_this : (q : Option AbstractStack) (a : AbstractStack) (ts : List Text) → q ≡ Some a → Has q ts → Describes a ts
has_this q a ts e h = subst (λ x. Has x ts) e h

module _ (step : AbstractStack → Reading) where
  -- a body that cannot fail here, and where it goes
  record GoesTo (a b : AbstractStack) : Type 0 where
    ok : (step a).ok ≡ Some b
    err : (step a).err ≡ None

  abbrev Closed : List AbstractStack → Type 0
  Closed u = (y : AbstractStack) → In y u → (z : AbstractStack) × GoesTo y z × In (made_intact z) u

  -- stacks that were gone through, up to a
  record Chain (starts : List (List Bool)) (a : AbstractStack) (t : List AbstractStack) : Type 0 where
    intact : a.intact ≡ true
    goes : (y : AbstractStack) → In y t → (z : AbstractStack) × GoesTo y z × In (made_intact z) (a ∷ t)
    held : (ms : List Bool) → In ms starts → In (at a.base ms) (a ∷ t)

  abbrev Loop : AbstractStack → Type 0
  Loop a = (u : List AbstractStack) × In a u × Closed u

  module _ (keeps : (a : AbstractStack) → Keeps a (step a)) where
    abbrev Ahead : Type 0 → (List (List Bool) → AbstractStack → Bool) → Type 0
    Ahead R f = (starts : List (List Bool)) (a : AbstractStack) (t : List AbstractStack) → Chain starts a t → f starts a ≡ true → (u : List AbstractStack) × (((y : AbstractStack) → In y (a ∷ t) → In y u) × Closed u)

    joined : (starts : List (List Bool)) (a b : AbstractStack) (t : List AbstractStack) → Chain starts a t → GoesTo a b → (y : AbstractStack) → In y (a ∷ t) → (z : AbstractStack) × GoesTo y z × In (made_intact z) (made_intact b ∷ a ∷ t)
    joined starts a b t c g y (inl e) = (b, subst (λ x. GoesTo x b) (sym e) g, inl refl)
    joined starts a b t c g y (inr i) = let n = c.goes y i in (n.0, n.1, inr n.2)

    landed : (starts : List (List Bool)) (a : AbstractStack) (t : List AbstractStack) (f : List (List Bool) → AbstractStack → Bool) → Chain starts a t → Ahead (Unit {0}) f
        → (q p : Option AbstractStack) (s : Bool) → (step a).ok ≡ q → (step a).err ≡ p → lands q p s starts f ≡ true
        → (u : List AbstractStack) × (((y : AbstractStack) → In y (a ∷ t) → In y u) × Closed u)
    landed starts a t f c k None p s e g h = cc
    landed starts a t f c k (Some b) (Some d) s e g h = cc
    landed starts a t f c k (Some b) None false e g h = cc
    landed starts a t f c k (Some b) None true e g h = go b.intact refl (are_among starts b.marks) refl h
      where
        goes : GoesTo a b
        goes = record { ok = e; err = g }

        on : Chain (b.marks ∷ []) (made_intact b) (a ∷ t)
        on = record { intact = refl; goes = joined starts a b t c goes; held = λ ms i. elim i [ inl l ↦ inl (ap (at b.base) l) | inr l ↦ absurd l ] }

        from_a : b.intact ≡ true → b.base ≡ a.base
        from_a i = let j : AllFrom a (Some b) = subst (AllFrom a) e (keeps a).0 in (j i).1

        on_too : b.intact ≡ true → Chain (b.marks ∷ starts) (made_intact b) (a ∷ t)
        on_too i = record { intact = refl; goes = joined starts a b t c goes; held = λ ms j. elim j [ inl l ↦ inl (ap (at b.base) l) | inr l ↦ inr (subst (λ x. In (at x ms) (a ∷ t)) (sym (from_a i)) (c.held ms l)) ] }

        earlier : (u : List AbstractStack) × (((y : AbstractStack) → In y (made_intact b ∷ a ∷ t) → In y u) × Closed u) → (u : List AbstractStack) × (((y : AbstractStack) → In y (a ∷ t) → In y u) × Closed u)
        earlier r = (r.0, (λ y i. r.1.0 y (inr i), r.1.1))

        back : b.intact ≡ true → are_among starts b.marks ≡ true → Closed (a ∷ t)
        back i j y (inl l) = (b, subst (λ x. GoesTo x b) (sym l) goes, subst (λ x. In (at x b.marks) (a ∷ t)) (sym (from_a i)) (c.held b.marks (marks_among starts b.marks j)))
        back i j y (inr l) = c.goes y l

        go : (x : Bool) → b.intact ≡ x → (y : Bool) → are_among starts b.marks ≡ y → (if x then (if y then true else f (b.marks ∷ starts) (made_intact b)) else f (b.marks ∷ []) (made_intact b)) ≡ true → (u : List AbstractStack) × (((y : AbstractStack) → In y (a ∷ t) → In y u) × Closed u)
        go true i true j h = (a ∷ t, (λ y l. l, back i j))
        go true i false j h = earlier (k (b.marks ∷ starts) (made_intact b) (a ∷ t) (on_too i) h)
        go false i y j h = earlier (k (b.marks ∷ []) (made_intact b) (a ∷ t) on h)

    loop_found : (k : ℕ) → Ahead (Unit {0}) (λ starts a. loops_within step k starts a)
    loop_found zero starts a t c h = cc
    loop_found (suc k) starts a t c h = landed starts a t (λ starts a. loops_within step k starts a) c (loop_found k) (step a).ok (step a).err (step a).still refl refl h

    loop_of : (k : ℕ) (a : AbstractStack) → loops k step a ≡ true → Loop (made_intact a)
    loop_of k a h =
        let r = loop_found k (a.marks ∷ []) (made_intact a) [] (record { intact = refl; goes = λ y i. absurd i; held = λ ms i. elim i [ inl l ↦ inl (ap (at a.base) l) | inr l ↦ absurd l ] }) h in
        (r.0, r.1.0 (made_intact a) (inl refl), r.1.1)

  -- from a stack of the loop the repetition has no outcome
  module _ (g : Grammar) (classes : Classes) (m : Mode) (e : Expression) (skips : Bool)
      (skipping : (s : State) (o : Outcome) → Does g classes (Skipping m) s o → Kept skips s o)
      (body : (s : State) (o : Outcome) → Does g classes (Run m e) s o → (a : AbstractStack) → Describes a s.stack → Agrees (step a) s o)
      (u : List AbstractStack) (closed : Closed u) where
    cannot_fail : {s : State} (y : AbstractStack) → In y u → Describes y s.stack → Does g classes (Run m e) s Failure → ⊥
    cannot_fail y i h d = let n = closed y i in subst Can n.1.err (body _ Failure d y h)

    stays_in : {s t : State} {us : Trees} (y : AbstractStack) (i : In y u) → Describes y s.stack → Does g classes (Run m e) s (Success t us) → Describes (made_intact (closed y i).0) t.stack
    stays_in {s} {t} {us} y i h d = let n = closed y i in let p : Agrees (step y) s (Success t us) = body s (Success t us) d y h in has_this (step y).ok n.0 t.stack n.1.ok p.0

    no_turns : {s : State} {o : Outcome} (y : AbstractStack) → In y u → Describes y s.stack → Does g classes (Turns m e) s o → ⊥
    no_turns y i h (turn_none k d) = cannot_fail y i (subst (λ x. Describes y x) (sym (skipping _ _ k).0) h) d
    no_turns y i h (turn k d f) = no_turns (made_intact (closed y i).0) (closed y i).2 (stays_in y i (subst (λ x. Describes y x) (sym (skipping _ _ k).0) h) d) f

    no_rep : {s : State} {o : Outcome} (y : AbstractStack) → In y u → Describes y s.stack → Does g classes (Run m (Rep e)) s o → ⊥
    no_rep y i h (rep_none d) = cannot_fail y i h d
    no_rep y i h (rep d f) = no_turns (made_intact (closed y i).0) (closed y i).2 (stays_in y i h d) f

    then_rep : (e' : Expression) {s : State} {o : Outcome} → ((s : State) (o : Outcome) (y : AbstractStack) → In y u → Describes y s.stack → Does g classes (Run m e') s o → ⊥)
        → (y : AbstractStack) → In y u → Describes y s.stack → Does g classes (Run m (Seq e e')) s o → ⊥
    then_rep e' f y i h (seq_first d) = cannot_fail y i h d
    then_rep e' f y i h (seq_second d k b) = f _ _ (made_intact (closed y i).0) (closed y i).2 (subst (λ x. Describes (made_intact (closed y i).0) x) (sym (skipping _ _ k).0) (stays_in y i h d)) b
    then_rep e' f y i h (seq d k b) = f _ _ (made_intact (closed y i).0) (closed y i).2 (subst (λ x. Describes (made_intact (closed y i).0) x) (sym (skipping _ _ k).0) (stays_in y i h d)) b

    no_copies : (n : ℕ) (s : State) (o : Outcome) (y : AbstractStack) → In y u → Describes y s.stack → Does g classes (Run m (in_sequence (replicate n e ++ Rep e ∷ []))) s o → ⊥
    no_copies zero s o y i h d = no_rep y i h d
    no_copies (suc zero) s o y i h d = then_rep (Rep e) (λ s o. no_copies zero s o) y i h d
    no_copies (suc (suc n)) s o y i h d = then_rep (in_sequence (replicate (suc n) e ++ Rep e ∷ [])) (λ s o. no_copies (suc n) s o) y i h d

    repeats_never : {p : Expression} → Repeats p e → (s : State) (o : Outcome) (y : AbstractStack) → In y u → Describes y s.stack → Does g classes (Run m p) s o → ⊥
    repeats_never any_times s o y i h d = no_rep y i h d
    repeats_never once_or_more s o y i h (rep_once d) = no_copies 1 s o y i h d
    repeats_never (at_least {n = n}) s o y i h (rep_min d) = no_copies n s o y i h d

-- whatever reaches a route is described by the stack with which the reading goes there
module _ (g : Grammar) (classes : Classes) (limit : ℕ) (skips : Bool) (m : Mode) (real : IsRuleMode m)
    (skipping : (m : Mode) (s : State) (o : Outcome) → Does g classes (Skipping m) s o → Kept skips s o)
    (step : Expression → AbstractStack → Reading) (sound : (e : Expression) → IsSound g classes e (step e)) where
  over : {s t : State} {us : Trees} (a : AbstractStack) → Describes a s.stack → Does g classes (Skipping m) s (Success t us) → Describes a t.stack
  over a h k = subst (λ x. Describes a x) (sym (skipping m _ _ k).0) h

  -- what comes after a possible stack
  next_is : {R : Type 0} (q : Option AbstractStack) (f : AbstractStack → Option AbstractStack) (b : AbstractStack) (ts : List Text) → Has q ts → next q f ≡ Some b → ((a : AbstractStack) → Describes a ts → f a ≡ Some b → R) → R
  next_is None f b ts h e k = absurd h
  next_is (Some a) f b ts h e k = k a h e

  turns_describe : {e : Expression} {cs : List Copy} {i : ℕ} {s t : State} → TurnAt g classes m e cs i s t → (a b : AbstractStack) → Describes a s.stack → turn_start (step e) cs i a ≡ Some b → Describes b t.stack
  turns_describe (now {s = s}) a b h q = subst (λ x. Describes x s.stack) (same_some q) h
  turns_describe {e} (after_required {cs = cs} {i = i} {s = s} {t = t} {u = u} {us = us} d k n) a b h q =
      let p : Agrees (step e a) s (Success t us) = sound e m real s (Success t us) d a h in
      next_is (step e a).ok (λ x. turn_start (step e) cs i x) b t.stack p.0 q (λ x y z. turns_describe n x b (over x y k) z)
  turns_describe {e} (after_optional {cs = cs} {i = i} {s = s} {t = t} {u = u} {us = us} d k n) a b h q =
      let p : Agrees (opt_reading a (step e a)) s (Success t us) = opt_sound g classes limit skips skipping e (step e) (sound e) m real s (Success t us) d a h in
      next_is (tried a (step e a)) (λ x. turn_start (step e) cs i x) b t.stack p.0 q (λ x y z. turns_describe n x b (over x y k) z)
  turns_describe {e} (after_turn {cs = cs} {i = i} {s = s} {t = t} {u = u} {us = us} d k n) a b h q =
      let p : Agrees (step e a) s (Success t us) = sound e m real s (Success t us) d a h in
      next_is (step e a).ok (λ x. turn_start (step e) (Endless ∷ cs) i x) b t.stack p.0 q (λ x y z. turns_describe n x b (over x y k) z)

  visits_describe : {e : Expression} {r : Route} {a b : AbstractStack} {s t : State} → Visits step e r a b → ReachesRoute g classes m e r s t → Describes a s.stack → Describes b t.stack
  visits_describe visit reach h = h
  visits_describe (visit_seq_first v) (reach_seq_first n) h = visits_describe v n h
  visits_describe (visit_seq_second {e = e} {a = a} {c = c} q v) (reach_seq_second {s = s} {t = t} {us = us} d k n) h =
      let p : Agrees (step e a) s (Success t us) = sound e m real s (Success t us) d a h in
      visits_describe v n (over c (has_this (step e a).ok c t.stack q p.0) k)
  visits_describe (visit_choice_first v) (reach_choice_first n) h = visits_describe v n h
  visits_describe (visit_choice_second {e = e} {a = a} {c = c} q v) (reach_choice_second {s = s} d n) h =
      visits_describe v n (has_this (failed (step e a).err a) c s.stack q (has_failed (step e a).err a s.stack (sound e m real s Failure d a h) h))
  visits_describe (visit_opt v) (reach_opt n) h = visits_describe v n h
  visits_describe (visit_push v) (reach_push n) h = visits_describe v n h
  visits_describe (visit_tag v) (reach_tag n) h = visits_describe v n h
  visits_describe (visit_pos_pred v) (reach_pos_pred n) h = visits_describe v n h
  visits_describe (visit_neg_pred v) (reach_neg_pred n) h = visits_describe v n h
  visits_describe {r = Turn i r} {b = b} {t = t} (visit_turn {q = q} {a = a} {c = c} x y v) (reach_turn {q = p} {s = s} {t = u} z w n) h =
      let e : p ≡ q = same_some (sym z ∙ x) in
      let w' : TurnAt g classes m q.body q.copies i s u = subst (λ q. TurnAt g classes m q.body q.copies i s u) e w in
      let n' : ReachesRoute g classes m q.body r u t = subst (λ q. ReachesRoute g classes m q.body r u t) e n in
      visits_describe v n' (turns_describe w' a c h y)

-- each report is certain
pub certain : (limit turns : ℕ) (recursive : Text → Bool) (g : Grammar) (e p : Expression) (r : Route) (a : AbstractStack) → IsReport limit turns recursive g e p r a → IsCertain g e p r a
certain limit turns recursive g e p r a report =
    let step : Expression → AbstractStack → Reading = reading_in limit recursive g in
    let loop = loop_of (step report.body) (reading_keeps limit (skips_in g) recursive g (length g) report.body) turns a report.loops_there in
    record {
      leads = report.leads;
      body = report.body;
      repeats = report.repeats;
      no_outcome = λ classes m s o real h d.
          repeats_never (step report.body) g classes m report.body (skips_in g) (kept g classes report.calm m)
          (reading_sound limit (skips_in g) recursive g classes (kept g classes report.calm) (length g) report.body m real) loop.0 loop.2 report.repeats s o (made_intact a) loop.1 h d;
      described = λ classes m s t real n.
          visits_describe g classes limit (skips_in g) m real (kept g classes report.calm) step
          (reading_sound limit (skips_in g) recursive g classes (kept g classes report.calm) (length g)) report.visits n tt;
    }
