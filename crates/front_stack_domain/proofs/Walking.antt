-- A repetition agrees with the reading of its copies.
use Rattle.std.proofs.Common.{◌≡◌, ◌⊎◌, inl, inr, ℕ, zero, suc, List, [], ◌∷◌, Bool, true, false, not, ◌&&◌, ◌||◌, is_some, if◌then◌else◌, Option, Some, None, refl, sym, ◌∙◌, subst}
use Rattle.std.specs.Prelude.{⊤}
use Rattle.std.proofs.lemmas.Bool.{not-true, or_left, or_right}
use Rattle.base_language.specs.Language.Expression.{Grammar, Expression, Opt, Rep}
use Rattle.base_language.specs.Language.State.{Classes, Mode, State, Trees, Outcome, Success, Failure}
use Rattle.base_language.specs.Language.Text.{Text}
use Rattle.base_language.specs.Language.Meaning.{Does, Run, Turns, Skipping, str, seq, seq_first, seq_second, opt, opt_none, rep, rep_none, turn, turn_none, in_sequence}
use Rattle.base_language.proofs.Basics.{first_of_both, second_of_both}
use Rattle.front_stack_domain.specs.Stack.{AbstractStack, Describes, join_any, failed, is_among}
use Rattle.front_stack_domain.specs.Reading.{Reading, stays, Copy, Required, Optional, Endless, is_one, is_single, Walk, turns, copy_from, onward, walk, walked}
use Rattle.front_stack_domain.specs.Stack.{In}
use Rattle.front_stack_domain.proofs.Stacks.{Has, Can, either_left, either_right, has_failed, among}

-- what a reading says of an outcome
abbrev pub Agrees : Reading → State → Outcome → Type 0
Agrees r s (Success t us) = Has r.ok t.stack × (r.still ≡ true → t.rest ≡ s.rest)
Agrees r s Failure = Can r.err

-- the skipping leaves the stack alone, and all where there is nothing to skip
abbrev pub Kept : Bool → State → Outcome → Type 0
Kept skips s (Success t us) = (t.stack ≡ s.stack) × (skips ≡ false → t.rest ≡ s.rest)
Kept skips s Failure = ⊤

pub with_has : {R : Type 0} (q : Option AbstractStack) (ts : List Text) → Has q ts → ((a : AbstractStack) → q ≡ Some a → Describes a ts → R) → R
with_has None ts h f = absurd h
with_has (Some a) ts h f = f a refl h

pub stays_still : (q : Option AbstractStack) (b : Bool) (ts : List Text) → Has q ts → (not (is_some q) || b) ≡ true → b ≡ true
stays_still None b ts h e = absurd h
stays_still (Some a) b ts h e = e

pub can_is_some : (q : Option AbstractStack) → Can q → is_some q ≡ true
can_is_some None h = absurd h
can_is_some (Some a) h = refl

pub or_false : (b : Bool) → (b || false) ≡ true → b ≡ true
or_false true h = refl
or_false false h = h

module _ (limit : ℕ) (step : AbstractStack → Reading) where
  -- a set of starts that no turn leaves, whose failures a walk's stack covers
  record Closed (S : AbstractStack → Type 0) (w : Walk) : Type 0 where
    onto : (y z : AbstractStack) → S y → (step y).ok ≡ Some z → S z
    covered : (y : AbstractStack) (ts : List Text) → S y → Can (step y).err → Describes y ts → Has w.here ts
    still : (y : AbstractStack) → S y → w.still ≡ true → stays (step y) ≡ true

  -- the same, but for the stack from which the next turn starts
  record Closing (seen : List AbstractStack) (q : Option AbstractStack) (w : Walk) : Type 0 where
    onto : (y z : AbstractStack) → In y seen → (step y).ok ≡ Some z → In z seen ⊎ (q ≡ Some z)
    covered : (y : AbstractStack) (ts : List Text) → In y seen → Can (step y).err → Describes y ts → Has w.here ts
    still : (y : AbstractStack) → In y seen → w.still ≡ true → stays (step y) ≡ true

  abbrev turned : AbstractStack → Walk → Walk
  turned a w = record { here = join_any w.here (failed (step a).err a); failing = w.failing; still = w.still && stays (step a) }

  closes : (seen : List AbstractStack) (a : AbstractStack) (w : Walk) → Closing seen (Some a) w → Closing (a ∷ seen) (step a).ok (turned a w)
  closes seen a w c = record { onto = onto'; covered = covered'; still = still' }
    where
      there : (z : AbstractStack) → Some a ≡ Some z → z ≡ a
      there z h = cc

      onto' : (y z : AbstractStack) → In y (a ∷ seen) → (step y).ok ≡ Some z → In z (a ∷ seen) ⊎ ((step a).ok ≡ Some z)
      onto' y z (inl e) h = inr (subst (λ x. (step x).ok ≡ Some z) e h)
      onto' y z (inr i) h = elim (c.onto y z i h) [ inl j ↦ inl (inr j) | inr e ↦ inl (inl (there z e)) ]

      covered' : (y : AbstractStack) (ts : List Text) → In y (a ∷ seen) → Can (step y).err → Describes y ts → Has (join_any w.here (failed (step a).err a)) ts
      covered' y ts (inl e) h d = either_right w.here (failed (step a).err a) ts (has_failed (step a).err a ts (subst (λ x. Can (step x).err) e h) (subst (λ x. Describes x ts) e d))
      covered' y ts (inr i) h d = either_left w.here (failed (step a).err a) ts (c.covered y ts i h d)

      still' : (y : AbstractStack) → In y (a ∷ seen) → (w.still && stays (step a)) ≡ true → stays (step y) ≡ true
      still' y (inl e) h = subst (λ x. stays (step x) ≡ true) (sym e) (second_of_both w.still (stays (step a)) h)
      still' y (inr i) h = c.still y i (first_of_both w.still (stays (step a)) h)

  abbrev Gives : Type 0 → List AbstractStack → Option AbstractStack → Walk → Type 1
  Gives R seen q w = (S : AbstractStack → Type 0) → Closed S w → ((a : AbstractStack) → In a seen → S a) → ((a : AbstractStack) → q ≡ Some a → S a) → R

  some_same : (x z : AbstractStack) → Some x ≡ Some z → x ≡ z
  some_same x z h = cc

  stops : {R : Type 0} (seen : List AbstractStack) (a : AbstractStack) (w : Walk) → Closing seen (Some a) w → In a seen → Gives R seen (Some a) w → R
  stops seen a w c i f =
      f (λ y. In y seen) (record { onto = λ y z j h. elim (c.onto y z j h) [ inl l ↦ l | inr l ↦ subst (λ x. In x seen) (some_same a z l) i ]; covered = c.covered; still = c.still })
      (λ x j. j) (λ x h. subst (λ x. In x seen) (some_same a x h) i)

  chosen : {R : Type 0} (seen : List AbstractStack) (a : AbstractStack) (w v : Walk) → Closing seen (Some a) w → (Gives R (a ∷ seen) (step a).ok v → R)
      → (b : Bool) → is_among seen a ≡ b → Gives R seen (Some a) (if b then w else v) → R
  chosen seen a w v c g true e f = stops seen a w c (among seen a e) f
  chosen seen a w v c g false e f = g (λ S d i s. f S d (λ x j. i x (inr j)) (λ x h. i x (inl (sym (some_same a x h)))))

  turns_close : {R : Type 0} (k : ℕ) (seen : List AbstractStack) (q : Option AbstractStack) (w : Walk) → Closing seen q w → Gives R seen q (turns limit step k seen q w) → R
  unfolding turns
  turns_close zero seen q w c f = f (λ y. Unit {0}) (record { onto = λ y z s h. tt; covered = λ y ts s h d. tt; still = λ y s h. cc }) (λ a h. tt) (λ a h. tt)
  turns_close (suc k) seen None w c f = f (λ y. In y seen) (record { onto = λ y z i h. elim (c.onto y z i h) [ inl j ↦ j | inr e ↦ cc ]; covered = c.covered; still = c.still }) (λ a h. h) (λ a h. cc)
  turns_close (suc k) seen (Some a) w c f =
      chosen seen a w (turns limit step k (a ∷ seen) (step a).ok (turned a w)) c (λ f. turns_close k (a ∷ seen) (step a).ok (turned a w) (closes seen a w c) f) (is_among seen a) refl f

  -- a flag that is on at the end was on before
  turns_still : (k : ℕ) (seen : List AbstractStack) (q : Option AbstractStack) (w : Walk) → (turns limit step k seen q w).still ≡ true → w.still ≡ true
  unfolding turns
  turns_still zero seen q w h = cc
  turns_still (suc k) seen None w h = h
  turns_still (suc k) seen (Some a) w h = go (is_among seen a) h (λ h. first_of_both w.still (stays (step a)) (turns_still k (a ∷ seen) (step a).ok (turned a w) h))
    where
      go : (b : Bool) → (if b then w else turns limit step k (a ∷ seen) (step a).ok (turned a w)).still ≡ true → ((turns limit step k (a ∷ seen) (step a).ok (turned a w)).still ≡ true → w.still ≡ true) → w.still ≡ true
      go true h f = h
      go false h f = f h

  turns_failing : (k : ℕ) (seen : List AbstractStack) (q : Option AbstractStack) (w : Walk) → w.failing ≡ true → (turns limit step k seen q w).failing ≡ true
  unfolding turns
  turns_failing zero seen q w h = h
  turns_failing (suc k) seen None w h = h
  turns_failing (suc k) seen (Some a) w h = go (is_among seen a) (turns_failing k (a ∷ seen) (step a).ok (turned a w) h)
    where
      go : (b : Bool) → (turns limit step k (a ∷ seen) (step a).ok (turned a w)).failing ≡ true → (if b then w else turns limit step k (a ∷ seen) (step a).ok (turned a w)).failing ≡ true
      go true f = h
      go false f = f

  copy_still : (c : Copy) (q : Option AbstractStack) (w : Walk) → (onward limit step c q w).still ≡ true → w.still ≡ true
  copy_still c None w h = h
  copy_still Required (Some a) w h = first_of_both w.still (stays (step a)) h
  copy_still Optional (Some a) w h = first_of_both w.still (stays (step a)) h
  copy_still Endless (Some a) w h = turns_still limit [] (Some a) (record { here = None; failing = w.failing; still = w.still }) h

  copy_failing : (c : Copy) (q : Option AbstractStack) (w : Walk) → w.failing ≡ true → (onward limit step c q w).failing ≡ true
  copy_failing c None w h = h
  copy_failing Required (Some a) w h = or_left w.failing (is_some (step a).err) h
  copy_failing Optional (Some a) w h = h
  copy_failing Endless (Some a) w h = turns_failing limit [] (Some a) (record { here = None; failing = w.failing; still = w.still }) h

  walk_still : (cs : List Copy) (w : Walk) → (walk limit step cs w).still ≡ true → w.still ≡ true
  walk_still [] w h = h
  walk_still (c ∷ cs) w h = copy_still c w.here w (walk_still cs (onward limit step c w.here w) h)

  walk_failing : (cs : List Copy) (w : Walk) → w.failing ≡ true → (walk limit step cs w).failing ≡ true
  walk_failing [] w h = h
  walk_failing (c ∷ cs) w h = walk_failing cs (onward limit step c w.here w) (copy_failing c w.here w h)

  -- what a walk says of an outcome
  abbrev pub Ends : Bool → Walk → State → Outcome → Type 0
  Ends quiet w s (Success t us) = Has w.here t.stack × (w.still ≡ true → quiet ≡ true → t.rest ≡ s.rest)
  Ends quiet w s Failure = w.failing ≡ true

  module _ (g : Grammar) (classes : Classes) (skips : Bool) (m : Mode) (e : Expression)
      (skipping : (s : State) (o : Outcome) → Does g classes (Skipping m) s o → Kept skips s o)
      (body : (s : State) (o : Outcome) → Does g classes (Run m e) s o → (a : AbstractStack) → Describes a s.stack → Agrees (step a) s o) where
    pub moved_on : {s t : State} {us : Trees} (a : AbstractStack) → Describes a s.stack → Does g classes (Skipping m) s (Success t us) → Describes a t.stack
    moved_on a h k = subst (λ x. Describes a x) (sym (skipping _ _ k).0) h

    turns_end : (S : AbstractStack → Type 0) (w : Walk) → Closed S w → {s : State} {o : Outcome} → Does g classes (Turns m e) s o → (a : AbstractStack) → S a → Describes a s.stack → Ends (not skips) w s o
    turns_end S w c (turn_none k d) a i h =
        (subst (λ x. Has w.here x) (skipping _ _ k).0 (c.covered a _ i (body _ _ d a (moved_on a h k)) (moved_on a h k)), λ e f. refl)
    turns_end S w c (turn {s = s} {t = t} {u = u} {vs = vs} k d f) a i h =
        let p : Agrees (step a) t (Success u vs) = body _ _ d a (moved_on a h k) in
        with_has (step a).ok u.stack p.0 λ z l n.
        let r = turns_end S w c f z (c.onto a z i l) n in
        (r.0, λ b q. r.1 b q ∙ p.1 (stays_still (step a).ok (step a).still u.stack p.0 (c.still a i b)) ∙ (skipping _ _ k).1 (not-true skips q))

    abbrev pub copied : Copy → Expression
    copied Required = e
    copied Optional = Opt e
    copied Endless = Rep e

    abbrev pub listed : List Copy → List Expression
    listed [] = []
    listed (c ∷ cs) = copied c ∷ listed cs

    rep_ends : (a : AbstractStack) (w : Walk) → {s : State} {o : Outcome} → Does g classes (Run m (Rep e)) s o → Describes a s.stack
        → (S : AbstractStack → Type 0) → Closed S w → S a → Ends (not skips || false) w s o
    rep_ends a w (rep_none d) h S c i = (c.covered a _ i (body _ _ d a h) h, λ b q. refl)
    rep_ends a w (rep {s = s} {t = t} {us = us} d f) h S c i =
        let p : Agrees (step a) s (Success t us) = body _ _ d a h in
        with_has (step a).ok t.stack p.0 λ z l n.
        let r = turns_end S w c f z (c.onto a z i l) n in
        (r.0, λ b q. r.1 b (or_false (not skips) q) ∙ p.1 (stays_still (step a).ok (step a).still t.stack p.0 (c.still a i b)))

    none_yet : (a : AbstractStack) (w : Walk) → Closing [] (Some a) w
    none_yet a w = record { onto = λ y z i h. absurd i; covered = λ y ts i h d. absurd i; still = λ y i h. absurd i }

    copy_ends : (c : Copy) (q : Option AbstractStack) (w : Walk) {s : State} {o : Outcome} → Has q s.stack → Does g classes (Run m (copied c)) s o → Ends (not skips || is_one c) (onward limit step c q w) s o
    copy_ends c None w h d = absurd h
    copy_ends Required (Some a) w {s} {o} h d = required o (body s o d a h)
      where
        required : (o : Outcome) → Agrees (step a) s o → Ends (not skips || true) (copy_from limit step Required a w) s o
        required Failure p = or_right w.failing (is_some (step a).err) (can_is_some (step a).err p)
        required (Success t us) p = (p.0, λ b q. p.1 (stays_still (step a).ok (step a).still t.stack p.0 (second_of_both w.still (stays (step a)) b)))
    copy_ends Optional (Some a) w {s} h (opt {t = t} {us = us} d) =
        let p : Agrees (step a) s (Success t us) = body _ _ d a h in
        (either_left (step a).ok (failed (step a).err a) t.stack p.0, λ b q. p.1 (stays_still (step a).ok (step a).still t.stack p.0 (second_of_both w.still (stays (step a)) b)))
    copy_ends Optional (Some a) w {s} h (opt_none d) =
        (either_right (step a).ok (failed (step a).err a) s.stack (has_failed (step a).err a s.stack (body _ _ d a h) h), λ b q. refl)
    copy_ends Endless (Some a) w h d =
        let v : Walk = record { here = None; failing = w.failing; still = w.still } in
        turns_close limit [] (Some a) v (none_yet a v) (λ S c i j. rep_ends a (turns limit step limit [] (Some a) v) d h S c (j a refl))

    walk_ends : (cs : List Copy) (w : Walk) {s : State} {o : Outcome} → Has w.here s.stack → Does g classes (Run m (in_sequence (listed cs))) s o → Ends (not skips || is_single cs) (walk limit step cs w) s o
    walk_ends [] w h str = (h, λ b q. refl)
    walk_ends (c ∷ []) w h d = copy_ends c w.here w h d
    walk_ends (c ∷ d ∷ cs) w h (seq_first f) = walk_failing (d ∷ cs) (onward limit step c w.here w) (copy_ends c w.here w h f)
    walk_ends (c ∷ d ∷ cs) w {s} h (seq_second {t = t} {us = us} a k b) =
        let v = onward limit step c w.here w in
        let p : Ends (not skips || is_one c) v s (Success t us) = copy_ends c w.here w h a in
        walk_ends (d ∷ cs) v (subst (λ x. Has v.here x) (sym (skipping _ _ k).0) p.0) b
    walk_ends (c ∷ d ∷ cs) w {s} h (seq {t = t} {us = us} a k b) =
        let v = onward limit step c w.here w in
        let p : Ends (not skips || is_one c) v s (Success t us) = copy_ends c w.here w h a in
        let r = walk_ends (d ∷ cs) v (subst (λ x. Has v.here x) (sym (skipping _ _ k).0) p.0) b in (
          r.0,
          λ x q. let n = or_false (not skips) q in
              r.1 x (or_left (not skips) (is_single (d ∷ cs)) n) ∙ (skipping _ _ k).1 (not-true skips n) ∙ p.1 (walk_still (d ∷ cs) v x) (or_left (not skips) (is_one c) n),
        )

    -- a repetition agrees with its reading
    pub walked_agrees : (cs : List Copy) {s : State} {o : Outcome} → Does g classes (Run m (in_sequence (listed cs))) s o → (a : AbstractStack) → Describes a s.stack → Agrees (walked limit step skips a cs) s o
    walked_agrees cs {s} {o} d a h = go o (walk_ends cs (record { here = Some a; failing = false; still = true }) h d)
      where
        go : (o : Outcome) → Ends (not skips || is_single cs) (walk limit step cs (record { here = Some a; failing = false; still = true })) s o → Agrees (walked limit step skips a cs) s o
        go Failure p = subst (λ b. Can (if b then Some a else None)) (sym p) tt
        go (Success t us) p = (
          p.0,
          λ x.
              let w = walk limit step cs (record { here = Some a; failing = false; still = true }) in
              let y = stays_still w.here (w.still && (not skips || is_single cs)) t.stack p.0 x in
              p.1 (first_of_both w.still (not skips || is_single cs) y) (second_of_both w.still (not skips || is_single cs) y),
        )
