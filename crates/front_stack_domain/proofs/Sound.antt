-- Whatever an expression does, its reading says so.
use Rattle.std.proofs.Common.{◌≡◌, ℕ, zero, suc, ◌-◌, min, List, [], ◌∷◌, ◌++◌, replicate, reverse, length, take, Bool, true, false, not, ◌&&◌, ◌||◌, is_some, if◌then◌else◌, Option, Some, None, refl, sym, ◌∙◌, ap, subst, nat_eq, ℤ, pos, negsuc, arith, bytes_eq}
use Rattle.std.proofs.Math.Dec.{leb-zero}
use mathlib.Core.List.{reverse_aux}
use Rattle.std.specs.Char.{eq_ignore_ascii_case}
use Rattle.std.proofs.lemmas.Bool.{not-true}
use Rattle.base_language.specs.Language.Expression.{Grammar, Expression, Str, Insens, Range, Ident, PeekSlice, PosPred, NegPred, Seq, Choice, Opt, Rep, RepOnce, RepExact, RepMin, RepMax, RepMinMax, Skip, Push, RestoreOnErr, Rule, rule_of, whitespace, comment, PushLiteral, NodeTag}
use Rattle.base_language.specs.Language.State.{Classes, Mode, IsRuleMode, NonAtomicMode, AtomicMode, CompoundAtomicMode, Between, State, None', Outcome, Success, Failure}
use Rattle.base_language.specs.Language.Text.{Text}
use Rattle.base_language.specs.Language.Matching.{text_outcome, slice_at, slice_outcome, other_outcome, named_outcome, peek_outcome, pop_outcome, drop_outcome, with_stack, range_set, concatenated}
use Rattle.base_language.specs.Language.Builtins.{Builtin, One, Property, Newline, Soi, Eoi, Peek, Pop, Drop, PeekAll, PopAll, builtin_of}
use Rattle.base_language.specs.Language.Meaning.{Does, Run, Skipping, str, insens, range, slice, skip, call, other, pos_pred, neg_pred, push, restore, seq, seq_first, seq_second, left, right, opt, opt_none, rep_once, rep_exact, rep_min, rep_max, rep_min_max, ahead, not_ahead, pushed, with_token, in_sequence, body_mode, push_literal, tag, with_top}
use Rattle.base_language.proofs.RuleModes.{in_rule_mode}
use Rattle.base_language.proofs.Basics.{first_of_both, second_of_both, same_some}
use Rattle.front_stack_domain.specs.Stack.{Base, Empty, Blank, Any, AbstractStack, AreBlank, Above, Marked, Describes, unknown, all_blank, push_mark, pop_all, popped, failed}
use Rattle.front_stack_domain.specs.Reading.{Reading, surely, maybe, anything, from, only_if, peek_all_reading, pop_all_reading, top_reading, drop_reading, builtin_reading, slice_reading, text_reading, pushed_reading, ahead_reading, not_ahead_reading, seq_reading, choice_reading, opt_reading, stays, Copy, Required, Optional, Endless, at_least_copies, from_to_copies, reading, rule_reading, name_reading, walked, literal_reading}
use Rattle.front_stack_domain.proofs.Stacks.{Has, Can, either_left, either_right, has_failed, pushes, blank_entries}
use Rattle.front_stack_domain.proofs.Walking.{Agrees, Kept, stays_still, walked_agrees, listed, copied}
use Rattle.front_stack_domain.proofs.Skipping.{Keeps, text_keeps, one_keeps, slices_keep, builtin_keeps}

maybe_agrees : (a : AbstractStack) (s : State) (o : Outcome) → Describes a s.stack → Keeps s o → Agrees (maybe a) s o
maybe_agrees a s Failure h k = tt
maybe_agrees a s (Success t us) h k = (subst (λ x. Describes a x) (sym k) h, λ q. cc)

blank_text : (ts : List Text) → AreBlank ts → concatenated ts ≡ []
blank_text [] h = refl
blank_text (t ∷ ts) h = rw h.0 (blank_text ts h.1)

text_agrees : (alike : ℕ → ℕ → Bool) (t : Text) (a : AbstractStack) (s : State) → Describes a s.stack → Agrees (text_reading t a) s (text_outcome alike t s)
text_agrees alike [] a s h = (h, λ q. refl)
text_agrees alike (c ∷ t) a s h = maybe_agrees a s (text_outcome alike (c ∷ t) s) h (text_keeps alike (c ∷ t) s)

literal_agrees : (t : Text) (a : AbstractStack) (s : State) → Describes a s.stack → Agrees (literal_reading t a) s (Success (with_top t s) None')
literal_agrees [] a s h = (pushes true a [] s.stack refl h, λ q. refl)
literal_agrees (c ∷ t) a s h = (pushes false a (c ∷ t) s.stack tt h, λ q. refl)

surely_agrees : (t : Text) (a : AbstractStack) (s : State) → t ≡ [] → Describes a s.stack → Agrees (surely a) s (text_outcome nat_eq t s)
surely_agrees t a s e h = subst (λ x. Agrees (surely a) s (text_outcome nat_eq x s)) (sym e) (h, λ q. refl)

-- PEEK_ALL and POP_ALL
peek_all_agrees : (a : AbstractStack) (t : Text) (s : State) → (AreBlank s.stack → t ≡ []) → Describes a s.stack → Agrees (peek_all_reading a) s (text_outcome nat_eq t s)
peek_all_agrees a t s f h = go (all_blank a) refl
  where
    go : (b : Bool) → all_blank a ≡ b → Agrees (if b then surely a else maybe a) s (text_outcome nat_eq t s)
    go true e = surely_agrees t a s (f (blank_entries a.marks a.base s.stack e h)) h
    go false e = maybe_agrees a s (text_outcome nat_eq t s) h (text_keeps nat_eq t s)

pop_all_agrees : (a : AbstractStack) (s : State) → Describes a s.stack → Agrees (pop_all_reading a) s (with_stack [] (text_outcome nat_eq (concatenated s.stack) s))
pop_all_agrees a s h = go (all_blank a) refl
  where
    on : (o : Outcome) → Agrees (record { ok = Some (pop_all a); err = Some unknown; still = false }) s (with_stack [] o)
    on Failure = tt
    on (Success t us) = (tt, λ q. cc)

    go : (b : Bool) → all_blank a ≡ b → Agrees (if b then surely (pop_all a) else record { ok = Some (pop_all a); err = Some unknown; still = false }) s (with_stack [] (text_outcome nat_eq (concatenated s.stack) s))
    go true e = subst (λ x. Agrees (surely (pop_all a)) s (with_stack [] (text_outcome nat_eq x s))) (sym (blank_text s.stack (blank_entries a.marks a.base s.stack e h))) (tt, λ q. refl)
    go false e = on (text_outcome nat_eq (concatenated s.stack) s)

peek_agrees : (ms : List Bool) (b : Base) (ts : List Text) (a : AbstractStack) (s : State) (o : Outcome) → Above ms b ts → Describes a s.stack → peek_outcome ts s ≡ Some o → Agrees (top_reading ms b a) s o
peek_agrees ms b [] a s o k h e = cc
peek_agrees (true ∷ ms) b (t ∷ ts) a s o k h e = subst (Agrees (surely a) s) (same_some e) (surely_agrees t a s k.0 h)
peek_agrees (false ∷ ms) b (t ∷ ts) a s o k h e = subst (Agrees (maybe a) s) (same_some e) (maybe_agrees a s (text_outcome nat_eq t s) h (text_keeps nat_eq t s))
peek_agrees [] Empty (t ∷ ts) a s o k h e = absurd k
peek_agrees [] Blank (t ∷ ts) a s o k h e = subst (Agrees (maybe a) s) (same_some e) (maybe_agrees a s (text_outcome nat_eq t s) h (text_keeps nat_eq t s))
peek_agrees [] Any (t ∷ ts) a s o k h e = subst (Agrees (maybe a) s) (same_some e) (maybe_agrees a s (text_outcome nat_eq t s) h (text_keeps nat_eq t s))

-- with the stack that is left
left_agrees : (b : AbstractStack) (ts : List Text) (s : State) (o : Outcome) → Describes b ts → Agrees (maybe b) s (with_stack ts o)
left_agrees b ts s Failure h = tt
left_agrees b ts s (Success t us) h = (h, λ q. cc)

pop_agrees : (ms : List Bool) (b : Base) (ts : List Text) (i : Bool) (s : State) (o : Outcome) → Above ms b ts → pop_outcome ts s ≡ Some o → Agrees (top_reading ms b (popped ms b i)) s o
pop_agrees ms b [] i s o k e = cc
pop_agrees (true ∷ ms) b (t ∷ ts) i s o k e = subst (Agrees (surely (popped (true ∷ ms) b i)) s) (same_some e) (subst (λ x. Agrees (surely (popped (true ∷ ms) b i)) s (with_stack ts (text_outcome nat_eq x s))) (sym k.0) (k.1, λ q. refl))
pop_agrees (false ∷ ms) b (t ∷ ts) i s o k e = subst (Agrees (maybe (popped (false ∷ ms) b i)) s) (same_some e) (left_agrees (popped (false ∷ ms) b i) ts s (text_outcome nat_eq t s) k.1)
pop_agrees [] Empty (t ∷ ts) i s o k e = absurd k
pop_agrees [] Blank (t ∷ ts) i s o k e = subst (Agrees (maybe (popped [] Blank i)) s) (same_some e) (left_agrees (popped [] Blank i) ts s (text_outcome nat_eq t s) k.1)
pop_agrees [] Any (t ∷ ts) i s o k e = subst (Agrees (maybe (popped [] Any i)) s) (same_some e) (left_agrees (popped [] Any i) ts s (text_outcome nat_eq t s) tt)

drop_agrees : (ms : List Bool) (b : Base) (ts : List Text) (i : Bool) (s : State) → Above ms b ts → Agrees (drop_reading ms b (record { base = b; marks = ms; intact = i })) s (drop_outcome ts s)
drop_agrees (m ∷ ms) b [] i s k = absurd k
drop_agrees (m ∷ ms) b (t ∷ ts) i s k = (k.1, λ q. refl)
drop_agrees [] Empty [] i s k = tt
drop_agrees [] Empty (t ∷ ts) i s k = absurd k
drop_agrees [] Blank [] i s k = tt
drop_agrees [] Blank (t ∷ ts) i s k = (k.1, λ q. refl)
drop_agrees [] Any [] i s k = tt
drop_agrees [] Any (t ∷ ts) i s k = (tt, λ q. refl)

builtin_agrees : (classes : Classes) (m : Mode) (q : Option Builtin) (a : AbstractStack) (s : State) (o : Outcome) → Describes a s.stack → named_outcome classes m q s ≡ Some o → Agrees (builtin_reading q a) s o
builtin_agrees classes m None a s o h e = cc
builtin_agrees classes m (Some (One set)) a s o h e = maybe_agrees a s o h (builtin_keeps classes m (One set) s o (λ x. x) e)
builtin_agrees classes m (Some (Property n)) a s o h e = maybe_agrees a s o h (builtin_keeps classes m (Property n) s o (λ x. x) e)
builtin_agrees classes m (Some Newline) a s o h e = maybe_agrees a s o h (builtin_keeps classes m Newline s o (λ x. x) e)
builtin_agrees classes m (Some Soi) a s o h e = maybe_agrees a s o h (builtin_keeps classes m Soi s o (λ x. x) e)
builtin_agrees classes m (Some Eoi) a s o h e = maybe_agrees a s o h (builtin_keeps classes m Eoi s o (λ x. x) e)
builtin_agrees classes m (Some Peek) a s o h e = peek_agrees a.marks a.base s.stack a s o h h e
builtin_agrees classes m (Some Pop) a s o h e = pop_agrees a.marks a.base s.stack a.intact s o h e
builtin_agrees classes m (Some Drop) a s o h e = subst (Agrees (drop_reading a.marks a.base a) s) (same_some e) (drop_agrees a.marks a.base s.stack a.intact s h)
builtin_agrees classes m (Some PeekAll) a s o h e = subst (Agrees (peek_all_reading a) s) (same_some e) (peek_all_agrees a (concatenated s.stack) s (blank_text s.stack) h)
builtin_agrees classes m (Some PopAll) a s o h e = subst (Agrees (pop_all_reading a) s) (same_some e) (pop_all_agrees a s h)

other_agrees : (classes : Classes) (m : Mode) (n : Text) (a : AbstractStack) (s : State) (o : Outcome) → IsRuleMode m → Describes a s.stack → other_outcome classes m n s ≡ Some o → Agrees (builtin_reading (builtin_of n) a) s o
other_agrees classes Between n a s o r h e = absurd r
other_agrees classes NonAtomicMode n a s o r h e = builtin_agrees classes NonAtomicMode (builtin_of n) a s o h e
other_agrees classes AtomicMode n a s o r h e = builtin_agrees classes AtomicMode (builtin_of n) a s o h e
other_agrees classes CompoundAtomicMode n a s o r h e = builtin_agrees classes CompoundAtomicMode (builtin_of n) a s o h e

module _ (g : Grammar) (classes : Classes) where
  -- a reading that agrees with all that an expression does
  abbrev pub IsSound : Expression → (AbstractStack → Reading) → Type 0
  IsSound e f = (m : Mode) → IsRuleMode m → (s : State) (o : Outcome) → Does g classes (Run m e) s o → (a : AbstractStack) → Describes a s.stack → Agrees (f a) s o

  with_agrees : (q : Option AbstractStack) (f : AbstractStack → Reading) (s : State) (o : Outcome) → Has q s.stack → ((a : AbstractStack) → Describes a s.stack → Agrees (f a) s o) → Agrees (from q f) s o
  with_agrees None f s o h k = absurd h
  with_agrees (Some a) f s o h k = k a h

  pushed_agrees : (r : Reading) (s : State) (o : Outcome) → Agrees r s o → Agrees (pushed_reading r) s (pushed s o)
  pushed_agrees r s Failure p = p
  pushed_agrees r s (Success t us) p = (go r.ok p.0 r.still p.1, p.1)
    where
      marked : (b : Bool) → (b ≡ true → t.rest ≡ s.rest) → Marked b (take (length s.rest - length t.rest) s.rest)
      marked true f = let e = ap length (f refl) in none (length s.rest - length t.rest) (omega arith)
        where
          none : (n : ℕ) → n ≡ 0 → take n s.rest ≡ []
          none n e = subst (λ k. take k s.rest ≡ []) (sym e) refl
      marked false f = tt

      go : (q : Option AbstractStack) → Has q t.stack → (b : Bool) → (b ≡ true → t.rest ≡ s.rest) → Has (elim q [ None ↦ None | Some b' ↦ Some (push_mark b b') ]) (take (length s.rest - length t.rest) s.rest ∷ t.stack)
      go None h b f = absurd h
      go (Some a) h b f = pushes b a (take (length s.rest - length t.rest) s.rest) t.stack (marked b f) h

  ahead_agrees : (a : AbstractStack) (r : Reading) (s : State) (o : Outcome) → Describes a s.stack → Agrees r s o → Agrees (ahead_reading a r) s (ahead s o)
  ahead_agrees a r s Failure h p = can r.err p
    where
      can : (q : Option AbstractStack) → Can q → Can (only_if q a)
      can None c = c
      can (Some b) c = tt
  ahead_agrees a r s (Success t us) h p = (has r.ok t.stack p.0, λ q. refl)
    where
      has : (q : Option AbstractStack) (ts : List Text) → Has q ts → Has (only_if q a) s.stack
      has None ts c = absurd c
      has (Some b) ts c = h

  not_ahead_agrees : (a : AbstractStack) (r : Reading) (s : State) (o : Outcome) → Describes a s.stack → Agrees r s o → Agrees (not_ahead_reading a r) s (not_ahead s o)
  not_ahead_agrees a r s Failure h p = (has r.err p, λ q. refl)
    where
      has : (q : Option AbstractStack) → Can q → Has (only_if q a) s.stack
      has None c = absurd c
      has (Some b) c = h
  not_ahead_agrees a r s (Success t us) h p = can r.ok t.stack p.0
    where
      can : (q : Option AbstractStack) (ts : List Text) → Has q ts → Can (only_if q a)
      can None ts c = absurd c
      can (Some b) ts c = tt

  token_agrees : (r : Reading) (x : Rule) (m : Mode) (s : State) (o : Outcome) → Agrees r s o → Agrees r s (with_token x m s o)
  token_agrees r x m s Failure p = p
  token_agrees r x m s (Success t us) p = p

  anything_agrees : (s : State) (o : Outcome) → Agrees anything s o
  anything_agrees s Failure = tt
  anything_agrees s (Success t us) = (tt, λ q. cc)

  err_left : (p q : Option AbstractStack) (a : AbstractStack) → Can p → Can (if is_some p || is_some q then Some a else None)
  err_left None q a c = absurd c
  err_left (Some b) q a c = tt

  err_right : (p q : Option AbstractStack) (a : AbstractStack) → Can q → Can (if is_some p || is_some q then Some a else None)
  err_right p None a c = absurd c
  err_right None (Some b) a c = tt
  err_right (Some d) (Some b) a c = tt

  module _ (limit : ℕ) (skips : Bool) (skipping : (m : Mode) (s : State) (o : Outcome) → Does g classes (Skipping m) s o → Kept skips s o) where
    seq_sound : (a b : Expression) (f h : AbstractStack → Reading) → IsSound a f → IsSound b h → IsSound (Seq a b) (λ x. seq_reading skips x (f x) (from (f x).ok h))
    seq_sound a b f h i j m r s o (seq_first d) x k = err_left (f x).err (from (f x).ok h).err x (i m r s Failure d x k)
    seq_sound a b f h i j m r s o (seq_second {t = t} {u = u} {us = us} {vs = vs} d l e) x k =
        let p : Agrees (f x) s (Success t us) = i m r s (Success t us) d x k in
        err_right (f x).err (from (f x).ok h).err x (with_agrees (f x).ok h u Failure (subst (λ y. Has (f x).ok y) (sym (skipping m t (Success u vs) l).0) p.0) (λ y n. j m r u Failure e y n))
    seq_sound a b f h i j m r s o (seq {t = t} {u = u} {v = v} {us = us} {vs = vs} {ws = ws} d l e) x k =
        let p : Agrees (f x) s (Success t us) = i m r s (Success t us) d x k in
        let n = skipping m t (Success u vs) l in
        let c : Agrees (from (f x).ok h) u (Success v ws) = with_agrees (f x).ok h u (Success v ws) (subst (λ y. Has (f x).ok y) (sym n.0) p.0) (λ y z. j m r u (Success v ws) e y z) in
        let q = from (f x).ok h in
        (c.0, λ y. c.1 (first_of_both q.still (not skips) (second_of_both (f x).still (q.still && not skips) y)) ∙ n.1 (not-true skips (second_of_both q.still (not skips) (second_of_both (f x).still (q.still && not skips) y))) ∙ p.1 (first_of_both (f x).still (q.still && not skips) y))

    choice_sound : (a b : Expression) (f h : AbstractStack → Reading) → IsSound a f → IsSound b h → IsSound (Choice a b) (λ x. choice_reading x (f x) (from (failed (f x).err x) h))
    choice_sound a b f h i j m r s o (left {t = t} {us = us} d) x k =
        let p : Agrees (f x) s (Success t us) = i m r s (Success t us) d x k in
        let q = from (failed (f x).err x) h in
        (either_left (f x).ok q.ok t.stack p.0, λ y. p.1 (stays_still (f x).ok (f x).still t.stack p.0 (first_of_both (stays (f x)) (stays q) y)))
    choice_sound a b f h i j m r s o (right d e) x k = go o (with_agrees (failed (f x).err x) h s o (has_failed (f x).err x s.stack (i m r s Failure d x k) k) (λ y n. j m r s o e y n))
      where
        can : (q : Option AbstractStack) → Can q → Can (failed q x)
        can None c = c
        can (Some z) c = tt

        go : (o : Outcome) → Agrees (from (failed (f x).err x) h) s o → Agrees (choice_reading x (f x) (from (failed (f x).err x) h)) s o
        go Failure p = can (from (failed (f x).err x) h).err p
        go (Success t us) p = let q = from (failed (f x).err x) h in (either_right (f x).ok q.ok t.stack p.0, λ y. p.1 (stays_still q.ok q.still t.stack p.0 (second_of_both (stays (f x)) (stays q) y)))

    pub opt_sound : (e : Expression) (f : AbstractStack → Reading) → IsSound e f → IsSound (Opt e) (λ x. opt_reading x (f x))
    opt_sound e f i m r s o (opt {t = t} {us = us} d) x k =
        let p : Agrees (f x) s (Success t us) = i m r s (Success t us) d x k in
        (either_left (f x).ok (failed (f x).err x) t.stack p.0, λ y. p.1 (stays_still (f x).ok (f x).still t.stack p.0 y))
    opt_sound e f i m r s o (opt_none d) x k = (either_right (f x).ok (failed (f x).err x) s.stack (has_failed (f x).err x s.stack (i m r s Failure d x k) k), λ y. refl)

blank_onto : (ts us : List Text) → AreBlank ts → AreBlank us → AreBlank (reverse_aux ts us)
blank_onto [] us h k = k
blank_onto (t ∷ ts) us h k = blank_onto ts (t ∷ us) h.1 (h.0, k)

blank_take : (n : ℕ) (ts : List Text) → AreBlank ts → AreBlank (take n ts)
blank_take zero ts h = tt
blank_take (suc n) [] h = tt
blank_take (suc n) (t ∷ ts) h = (h.0, blank_take n ts h.1)

slice_agrees : (i : ℤ) (j : Option ℤ) (a : AbstractStack) (s : State) → Describes a s.stack → Agrees (slice_reading i j a) s (slice_outcome i j s)
slice_agrees (pos zero) None a s h =
    subst (λ b. Agrees (peek_all_reading a) s (slice_at (if b then Some 0 else None) (Some (length s.stack)) s)) (sym (leb-zero (length s.stack)))
    (peek_all_agrees a (concatenated (take (length s.stack - 0) (reverse s.stack))) s (λ k. blank_text (take (length s.stack - 0) (reverse s.stack)) (blank_take (length s.stack - 0) (reverse s.stack) (blank_onto s.stack [] k tt))) h)
slice_agrees (pos zero) (Some (pos zero)) a s h =
    subst (λ b. Agrees (surely a) s (slice_at (if b then Some 0 else None) (if b then Some 0 else None) s)) (sym (leb-zero (length s.stack))) (h, λ q. refl)
slice_agrees (pos zero) (Some (pos (suc k))) a s h = maybe_agrees a s _ h (slices_keep (pos zero) (Some (pos (suc k))) s)
slice_agrees (pos zero) (Some (negsuc k)) a s h = maybe_agrees a s _ h (slices_keep (pos zero) (Some (negsuc k)) s)
slice_agrees (pos (suc k)) j a s h = maybe_agrees a s _ h (slices_keep (pos (suc k)) j s)
slice_agrees (negsuc k) j a s h = maybe_agrees a s _ h (slices_keep (negsuc k) j s)

module _ (g : Grammar) (classes : Classes) (limit : ℕ) (skips : Bool) (skipping : (m : Mode) (s : State) (o : Outcome) → Does g classes (Skipping m) s o → Kept skips s o) where
  module _ (m : Mode) (r : IsRuleMode m) (e : Expression) (f : AbstractStack → Reading) (i : IsSound g classes e f) where
    abbrev Copies : List Copy → List Expression
    Copies = listed limit f g classes skips m e (skipping m) (i m r)

    of_copies : (n : ℕ) (c : Copy) → Copies (replicate n c) ≡ replicate n (copied limit f g classes skips m e (skipping m) (i m r) c)
    of_copies zero c = refl
    of_copies (suc n) c = ap (λ es. copied limit f g classes skips m e (skipping m) (i m r) c ∷ es) (of_copies n c)

    of_both : (cs ds : List Copy) → Copies (cs ++ ds) ≡ Copies cs ++ Copies ds
    of_both [] ds = refl
    of_both (c ∷ cs) ds = ap (λ es. copied limit f g classes skips m e (skipping m) (i m r) c ∷ es) (of_both cs ds)

    of_at_least : (n : ℕ) → Copies (at_least_copies n) ≡ replicate n e ++ Rep e ∷ []
    of_at_least n = of_both (replicate n Required) (Endless ∷ []) ∙ ap (λ es. es ++ Rep e ∷ []) (of_copies n Required)

    of_from_to : (k n : ℕ) → Copies (from_to_copies k n) ≡ replicate (min k n) e ++ replicate (n - k) (Opt e)
    of_from_to k n = of_both (replicate (min k n) Required) (replicate (n - k) Optional) ∙ ap (λ es. es ++ Copies (replicate (n - k) Optional)) (of_copies (min k n) Required) ∙ ap (λ es. replicate (min k n) e ++ es) (of_copies (n - k) Optional)

    sound_copies : (cs : List Copy) (es : List Expression) → Copies cs ≡ es → (s : State) (o : Outcome) → Does g classes (Run m (in_sequence es)) s o → (a : AbstractStack) → Describes a s.stack → Agrees (walked limit f skips a cs) s o
    sound_copies cs es q s o d a h = walked_agrees limit f g classes skips m e (skipping m) (i m r) cs (subst (λ es. Does g classes (Run m (in_sequence es)) s o) (sym q) d) a h

  module _ (named : Text → AbstractStack → Reading) (names : (n : Text) → IsSound g classes (Ident n) (named n)) where
    pub sound : (e : Expression) → IsSound g classes e (λ a. reading limit skips named e a)
    sound (Str t) m r s o str a h = text_agrees nat_eq t a s h
    sound (Insens t) m r s o insens a h = text_agrees eq_ignore_ascii_case t a s h
    sound (Range b c) m r s o range a h = maybe_agrees a s o h (one_keeps (range_set b c) s)
    sound (Ident n) m r s o d a h = names n m r s o d a h
    sound (PeekSlice i j) m r s o slice a h = slice_agrees i j a s h
    sound (PosPred e) m r s o (pos_pred {o = p} d) a h = ahead_agrees g classes a (reading limit skips named e a) s p h (sound e m r s p d a h)
    sound (NegPred e) m r s o (neg_pred {o = p} d) a h = not_ahead_agrees g classes a (reading limit skips named e a) s p h (sound e m r s p d a h)
    sound (Seq e f) m r s o d a h = seq_sound g classes limit skips skipping e f (λ a. reading limit skips named e a) (λ a. reading limit skips named f a) (sound e) (sound f) m r s o d a h
    sound (Choice e f) m r s o d a h = choice_sound g classes limit skips skipping e f (λ a. reading limit skips named e a) (λ a. reading limit skips named f a) (sound e) (sound f) m r s o d a h
    sound (Opt e) m r s o d a h = opt_sound g classes limit skips skipping e (λ a. reading limit skips named e a) (sound e) m r s o d a h
    sound (Rep e) m r s o d a h = sound_copies m r e (λ a. reading limit skips named e a) (sound e) (Endless ∷ []) (Rep e ∷ []) refl s o d a h
    sound (RepOnce e) m r s o (rep_once d) a h = sound_copies m r e (λ a. reading limit skips named e a) (sound e) (Required ∷ Endless ∷ []) (e ∷ Rep e ∷ []) refl s o d a h
    sound (RepExact e n) m r s o (rep_exact d) a h = sound_copies m r e (λ a. reading limit skips named e a) (sound e) (replicate n Required) (replicate n e) (of_copies m r e (λ a. reading limit skips named e a) (sound e) n Required) s o d a h
    sound (RepMin e n) m r s o (rep_min d) a h = sound_copies m r e (λ a. reading limit skips named e a) (sound e) (at_least_copies n) (replicate n e ++ Rep e ∷ []) (of_at_least m r e (λ a. reading limit skips named e a) (sound e) n) s o d a h
    sound (RepMax e n) m r s o (rep_max d) a h = sound_copies m r e (λ a. reading limit skips named e a) (sound e) (replicate n Optional) (replicate n (Opt e)) (of_copies m r e (λ a. reading limit skips named e a) (sound e) n Optional) s o d a h
    sound (RepMinMax e k n) m r s o (rep_min_max d) a h = sound_copies m r e (λ a. reading limit skips named e a) (sound e) (from_to_copies k n) (replicate (min k n) e ++ replicate (n - k) (Opt e)) (of_from_to m r e (λ a. reading limit skips named e a) (sound e) k n) s o d a h
    sound (Skip ts) m r s o skip a h = (h, λ q. cc)
    sound (Push e) m r s o (push {o = p} d) a h = pushed_agrees g classes (reading limit skips named e a) s p (sound e m r s p d a h)
    sound (PushLiteral t) m r s o push_literal a h = literal_agrees t a s h
    sound (NodeTag e t) m r s o (tag d) a h = sound e m r s o d a h
    sound (RestoreOnErr e) m r s o (restore d) a h = sound e m r s o d a h

module _ (limit : ℕ) (skips : Bool) (recursive : Text → Bool) (g : Grammar) (classes : Classes) (skipping : (m : Mode) (s : State) (o : Outcome) → Does g classes (Skipping m) s o → Kept skips s o) where
  rule_sound : (n : Text) (f : Expression → AbstractStack → Reading) → ((e : Expression) → IsSound g classes e (f e)) → IsSound g classes (Ident n) (rule_reading limit skips recursive g n (rule_of g n) f)
  rule_sound n f k m r s o (other e c) a h = subst (λ q. Agrees (rule_reading limit skips recursive g n q f a) s o) (sym e) (other_agrees classes m n a s o r h c)
  rule_sound n f k m r s o (call {o = p} {r = x} e d) a h = subst (λ q. Agrees (rule_reading limit skips recursive g n q f a) s (with_token x m s p)) (sym e) (go (recursive n))
    where
      go : (b : Bool) → Agrees (if b then anything else f x.body a) s (with_token x m s p)
      go true = anything_agrees g classes s (with_token x m s p)
      go false = token_agrees g classes (f x.body a) x m s p (k x.body (body_mode x m) (in_rule_mode x.type_of (bytes_eq x.name whitespace || bytes_eq x.name comment) m) s p d a h)

  pub name_sound : (k : ℕ) (n : Text) → IsSound g classes (Ident n) (name_reading limit skips recursive g k n)
  name_sound zero n = rule_sound n (λ e b. anything) (λ e m r s o d a h. anything_agrees g classes s o)
  name_sound (suc k) n = rule_sound n (λ e b. reading limit skips (name_reading limit skips recursive g k) e b) (sound g classes limit skips skipping (name_reading limit skips recursive g k) (name_sound k))

  -- whatever an expression does, its reading says so
  pub reading_sound : (k : ℕ) (e : Expression) → IsSound g classes e (λ a. reading limit skips (name_reading limit skips recursive g k) e a)
  reading_sound k e = sound g classes limit skips skipping (name_reading limit skips recursive g k) (name_sound k) e
