-- Where wrappers stand, the two meanings agree.
use Rattle.std.proofs.Common.{◌≡◌, ℕ, zero, suc, ◌-◌, min, List, [], Option, Some, None, refl, sym, ◌∙◌, ap, subst, nat_eq}
use Rattle.std.specs.Char.{eq_ignore_ascii_case}
use Rattle.base_language.specs.Language.Text.{Text}
use Rattle.base_language.specs.Language.Expression.{Grammar, Expression, Str, Ident, PosPred, NegPred, Seq, Choice, Opt, Rep, RepOnce, RepExact, RepMin, RepMax, RepMinMax, Push, RestoreOnErr, Rule, rule_of, whole, of_pos_pred, of_neg_pred, of_seq_left, of_seq_right, of_choice_left, of_choice_right, of_opt, of_rep, of_rep_once, of_rep_exact, of_rep_min, of_rep_max, of_rep_min_max, of_push, of_restore, NodeTag, of_tag}
use Rattle.base_language.specs.Language.State.{Classes, Mode, NonAtomicMode, AtomicMode, CompoundAtomicMode, Between, State, Trees, None', Outcome, Success, Failure}
use Rattle.base_language.specs.Language.Matching.{text_outcome, character_outcome, range_set, slice_outcome}
use Rattle.base_language.specs.Language.Builtins.{builtin_of, Builtin, One, Property, Newline, Soi, Eoi, Peek, Pop, Drop, PeekAll, PopAll}
use Rattle.base_language.specs.Language.Meaning.{Does, Task, Run, Turns, Skipping, str, insens, range, slice, skip, call, other, pos_pred, neg_pred, push, restore, seq, seq_first, seq_second, left, right, opt, opt_none, rep_none, turn, turn_none, rep_exact, rep_max, rep_min_max, skips, atomic, compound_atomic, between, ahead, not_ahead, pushed, with_token, body_mode, once_or_more, exactly, at_least, at_most, from_to, in_sequence, skipped, rep, rep_once, rep_min, push_literal, tag}
use Rattle.base_language.specs.Language.WellFormed.{is_whitespace}
use Rattle.base_language.specs.Language.LooseMeaning.{Ending, Done, Lost, leaving, left_by, with_left, called, looked, not_looked, pushing, restoring, behind_turn, DoesLoosely, loose_str, loose_insens, loose_range, loose_slice, loose_skip, loose_call, loose_other, loose_pos_pred, loose_neg_pred, loose_push, loose_restore, loose_seq, loose_seq_first, loose_seq_second, loose_left, loose_right, loose_opt, loose_opt_none, loose_rep, loose_rep_none, loose_turn, loose_turn_none, loose_rep_once, loose_rep_exact, loose_rep_min, loose_rep_max, loose_rep_min_max, loose_skips, loose_atomic, loose_compound_atomic, loose_between, Pops, pops, pops_all, pops_rule, pops_left, pops_right, pops_push, pops_rep_exact, pops_rep_min_max, Safe, wrapped, keeps, IsSafe, Restored, SameEndings, loose_push_literal, loose_tag, pops_tag}
use Rattle.base_language.proofs.OneOutcome.{from}
use Rattle.base_language.proofs.Moving.{Each', no_more, also, each_copy, each_of_both, in_all}

-- a failure has left the stack as it was
data Kept (s : State) : Ending → Type 0 where
  done : {t : State} {us : Trees} → Kept s (Done t us)
  lost : {ts : List Text} → ts ≡ s.stack → Kept s (Lost ts)

kept_leaving : {s : State} {ts : List Text} (o : Outcome) → ts ≡ s.stack → Kept s (leaving ts o)
kept_leaving Failure e = lost e
kept_leaving (Success t us) e = done

kept_called : {s : State} {o : Ending} (r : Rule) (m : Mode) → Kept s o → Kept s (called r m s o)
kept_called r m done = done
kept_called r m (lost e) = lost e

kept_pushing : {s : State} {o : Ending} → Kept s o → Kept s (pushing s o)
kept_pushing done = done
kept_pushing (lost e) = lost e

kept_looked : {s : State} (o : Ending) → Kept s (looked s o)
kept_looked (Done t us) = done
kept_looked (Lost ts) = lost refl

kept_not_looked : {s : State} (o : Ending) → Kept s (not_looked s o)
kept_not_looked (Done t us) = lost refl
kept_not_looked (Lost ts) = done

kept_restoring : {s : State} (o : Ending) → Kept s (restoring s o)
kept_restoring (Done t us) = done
kept_restoring (Lost ts) = lost refl

kept_further : {s : State} {ts : List Text} {o : Ending} → ts ≡ s.stack → Kept (with_left ts s) o → Kept s o
kept_further e done = done
kept_further e (lost f) = lost (f ∙ e)

lost_stack : {s : State} {ts : List Text} → Kept s (Lost ts) → ts ≡ s.stack
lost_stack (lost e) = e

module _ (g : Grammar) (classes : Classes) where
  abbrev NoPop : Task → Type 0
  NoPop (Run m e) = Pops g e → ⊥
  NoPop (Turns m e) = Unit {0}
  NoPop (Skipping m) = Unit {0}

  left_same : (n : Text) (s : State) → (Pops g (Ident n) → ⊥) → left_by (builtin_of n) s ≡ s.stack
  left_same n s c = go (builtin_of n) refl
    where
      go : (b : Option Builtin) → builtin_of n ≡ b → left_by b s ≡ s.stack
      go (Some Pop) e = absurd (c (pops e))
      go (Some PopAll) e = absurd (c (pops_all e))
      go None e = refl
      go (Some (One f)) e = refl
      go (Some (Property k)) e = refl
      go (Some Newline) e = refl
      go (Some Soi) e = refl
      go (Some Eoi) e = refl
      go (Some Peek) e = refl
      go (Some Drop) e = refl
      go (Some PeekAll) e = refl

  -- copies that end in a repetition, and optional ones, lose nothing
  at_least_keeps : (e : Expression) (i : ℕ) → Pops g (at_least e i) → ⊥
  at_least_keeps e zero x = elim x [ ]
  at_least_keeps e (suc zero) x = elim x [ ]
  at_least_keeps e (suc (suc i)) x = elim x [ ]

  at_most_keeps : (e : Expression) (i : ℕ) → Pops g (at_most e i) → ⊥
  at_most_keeps e zero x = elim x [ ]
  at_most_keeps e (suc zero) x = elim x [ ]
  at_most_keeps e (suc (suc i)) x = elim x [ ]

  kept : {k : Task} {s : State} {o : Ending} → DoesLoosely g classes k s o → NoPop k → Kept s o
  kept (loose_str {t = t} {s = s}) c = kept_leaving (text_outcome nat_eq t s) refl
  kept (loose_insens {t = t} {s = s}) c = kept_leaving (text_outcome eq_ignore_ascii_case t s) refl
  kept (loose_range {a = a} {b = b} {s = s}) c = kept_leaving (character_outcome (range_set a b) s) refl
  kept (loose_slice {i = i} {j = j} {s = s}) c = kept_leaving (slice_outcome i j s) refl
  kept loose_skip c = done
  kept (loose_call {m = m} {r = r} h d) c = kept_called r m (kept d (λ x. c (pops_rule h x)))
  kept (loose_other {n = n} {s = s} {o = o} h b) c = kept_leaving o (left_same n s c)
  kept (loose_pos_pred {o = o} d) c = kept_looked o
  kept (loose_neg_pred {o = o} d) c = kept_not_looked o
  kept (loose_push d) c = kept_pushing (kept d (λ x. c (pops_push x)))
  kept loose_push_literal c = done
  kept (loose_tag d) c = kept d (λ x. c (pops_tag x))
  kept (loose_restore {o = o} d) c = kept_restoring o
  kept (loose_seq a k b) c = done
  kept (loose_seq_first a) c = lost refl
  kept (loose_seq_second a k b) c = lost refl
  kept (loose_left a) c = done
  kept (loose_right a b) c = kept_further (lost_stack (kept a (λ x. c (pops_left x)))) (kept b (λ x. c (pops_right x)))
  kept (loose_opt a) c = done
  kept (loose_opt_none a) c = done
  kept (loose_rep a b) c = done
  kept (loose_rep_none a) c = done
  kept (loose_turn k a b) c = done
  kept (loose_turn_none k a) c = done
  kept (loose_rep_once d) c = kept d (λ x. elim x [ ])
  kept (loose_rep_exact d) c = kept d (λ x. c (pops_rep_exact x))
  kept (loose_rep_min {e = e} {i = i} d) c = kept d (at_least_keeps e i)
  kept (loose_rep_max {e = e} {i = i} d) c = kept d (at_most_keeps e i)
  kept (loose_rep_min_max d) c = kept d (λ x. c (pops_rep_min_max x))
  kept (loose_skips d) c = kept d (λ x. elim x [ ])
  kept loose_atomic c = done
  kept loose_compound_atomic c = done
  kept loose_between c = done

  kept_wrapped : {m : Mode} {x : Expression} {s : State} {o : Ending} → DoesLoosely g classes (Run m (RestoreOnErr x)) s o → Kept s o
  kept_wrapped (loose_restore {o = o} d) = kept_restoring o

  kept_safe : {m : Mode} {e : Expression} {s : State} {o : Ending} → Safe g e → DoesLoosely g classes (Run m e) s o → Kept s o
  kept_safe (keeps c) d = kept d c
  kept_safe {m} {s = s} {o = o} (wrapped x e) d = kept_wrapped (subst (λ e. DoesLoosely g classes (Run m e) s o) e d)

  -- copies are safe as what they are copies of
  safe_empty : IsSafe g (Str [])
  safe_empty q whole = tt

  safe_seq : (a b : Expression) → IsSafe g a → IsSafe g b → IsSafe g (Seq a b)
  safe_seq a b i j q whole = tt
  safe_seq a b i j q (of_seq_left h) = i q h
  safe_seq a b i j q (of_seq_right h) = j q h

  safe_opt : {e : Expression} → Safe g e → IsSafe g e → IsSafe g (Opt e)
  safe_opt c i q whole = c
  safe_opt c i q (of_opt h) = i q h

  safe_rep : {e : Expression} → Safe g e → IsSafe g e → IsSafe g (Rep e)
  safe_rep c i q whole = c
  safe_rep c i q (of_rep h) = i q h

  safe_all : {es : List Expression} → Each' (IsSafe g) es → IsSafe g (in_sequence es)
  safe_all e = in_all (IsSafe g) safe_empty safe_seq e

  safe_once_or_more : {e : Expression} → IsSafe g (RepOnce e) → IsSafe g (once_or_more e)
  safe_once_or_more {e} c = let i : IsSafe g e = λ p h. c p (of_rep_once h) in safe_seq e (Rep e) i (safe_rep (c _ whole) i)

  safe_exactly : {e : Expression} {i : ℕ} → IsSafe g (RepExact e i) → IsSafe g (exactly e i)
  safe_exactly {i = i} c = safe_all (each_copy (IsSafe g) i (λ p h. c p (of_rep_exact h)))

  safe_at_least : {e : Expression} {i : ℕ} → IsSafe g (RepMin e i) → IsSafe g (at_least e i)
  safe_at_least {e} {i} c =
      let s : IsSafe g e = λ p h. c p (of_rep_min h) in
      safe_all (each_of_both (IsSafe g) (each_copy (IsSafe g) i s) (also (safe_rep (c _ whole) s) no_more))

  safe_at_most : {e : Expression} {i : ℕ} → IsSafe g (RepMax e i) → IsSafe g (at_most e i)
  safe_at_most {i = i} c = safe_all (each_copy (IsSafe g) i (safe_opt (c _ whole) (λ p h. c p (of_rep_max h))))

  safe_from_to : {e : Expression} {i j : ℕ} → IsSafe g (RepMinMax e i j) → IsSafe g (from_to e i j)
  safe_from_to {e} {i} {j} c =
      let s : IsSafe g e = λ p h. c p (of_rep_min_max h) in
      safe_all (each_of_both (IsSafe g) (each_copy (IsSafe g) (min i j) s) (each_copy (IsSafe g) (j - i) (safe_opt (c _ whole) s)))

  module _ (restored : Restored g) where
    abbrev IsOk : Task → Type 0
    IsOk (Run m e) = IsSafe g e
    IsOk (Turns m e) = IsSafe g (Rep e)
    IsOk (Skipping m) = Unit {0}

    safe_skipped : IsSafe g skipped
    safe_skipped q whole = tt
    safe_skipped q (of_seq_left whole) = keeps (restored.skipping _ is_whitespace)
    safe_skipped q (of_seq_left (of_rep whole)) = tt
    safe_skipped q (of_seq_right whole) = keeps (λ x. elim x [ ])
    safe_skipped q (of_seq_right (of_rep whole)) = tt
    safe_skipped q (of_seq_right (of_rep (of_seq_left whole))) = tt
    safe_skipped q (of_seq_right (of_rep (of_seq_right whole))) = keeps (restored.skipping _ is_whitespace)
    safe_skipped q (of_seq_right (of_rep (of_seq_right (of_rep whole)))) = tt

    unmoved : {s : State} {ts : List Text} → ts ≡ s.stack → with_left ts s ≡ s
    unmoved {s} e = ap (λ x. with_left x s) e

    -- from the first meaning to the second
    data Tried (k : Task) (s : State) : Outcome → Type 0 where
      tried_done : {t : State} {us : Trees} → DoesLoosely g classes k s (Done t us) → Tried k s (Success t us)
      tried_lost : {ts : List Text} → DoesLoosely g classes k s (Lost ts) → Tried k s Failure

    tried_leaving : {k : Task} {s : State} (ts : List Text) (o : Outcome) → DoesLoosely g classes k s (leaving ts o) → Tried k s o
    tried_leaving ts Failure d = tried_lost d
    tried_leaving ts (Success t us) d = tried_done d

    tried_call : {m : Mode} {n : Text} {s : State} {o : Outcome} {r : Rule} → rule_of g n ≡ Some r → Tried (Run (body_mode r m) r.body) s o → Tried (Run m (Ident n)) s (with_token r m s o)
    tried_call h (tried_done d) = tried_done (loose_call h d)
    tried_call h (tried_lost d) = tried_lost (loose_call h d)

    tried_look : {m : Mode} {e : Expression} {s : State} {o : Outcome} → Tried (Run m e) s o → Tried (Run m (PosPred e)) s (ahead s o)
    tried_look (tried_done d) = tried_done (loose_pos_pred d)
    tried_look (tried_lost d) = tried_lost (loose_pos_pred d)

    tried_not_look : {m : Mode} {e : Expression} {s : State} {o : Outcome} → Tried (Run m e) s o → Tried (Run m (NegPred e)) s (not_ahead s o)
    tried_not_look (tried_done d) = tried_lost (loose_neg_pred d)
    tried_not_look (tried_lost d) = tried_done (loose_neg_pred d)

    tried_push : {m : Mode} {e : Expression} {s : State} {o : Outcome} → Tried (Run m e) s o → Tried (Run m (Push e)) s (pushed s o)
    tried_push (tried_done d) = tried_done (loose_push d)
    tried_push (tried_lost d) = tried_lost (loose_push d)

    tried_tag : {m : Mode} {e : Expression} {t : Text} {s : State} {o : Outcome} → Tried (Run m e) s o → Tried (Run m (NodeTag e t)) s o
    tried_tag (tried_done d) = tried_done (loose_tag d)
    tried_tag (tried_lost d) = tried_lost (loose_tag d)

    tried_restore : {m : Mode} {e : Expression} {s : State} {o : Outcome} → Tried (Run m e) s o → Tried (Run m (RestoreOnErr e)) s o
    tried_restore (tried_done d) = tried_done (loose_restore d)
    tried_restore (tried_lost d) = tried_lost (loose_restore d)

    tried_once : {m : Mode} {e : Expression} {s : State} {o : Outcome} → Tried (Run m (once_or_more e)) s o → Tried (Run m (RepOnce e)) s o
    tried_once (tried_done d) = tried_done (loose_rep_once d)
    tried_once (tried_lost d) = tried_lost (loose_rep_once d)

    tried_exact : {m : Mode} {e : Expression} {i : ℕ} {s : State} {o : Outcome} → Tried (Run m (exactly e i)) s o → Tried (Run m (RepExact e i)) s o
    tried_exact (tried_done d) = tried_done (loose_rep_exact d)
    tried_exact (tried_lost d) = tried_lost (loose_rep_exact d)

    tried_min : {m : Mode} {e : Expression} {i : ℕ} {s : State} {o : Outcome} → Tried (Run m (at_least e i)) s o → Tried (Run m (RepMin e i)) s o
    tried_min (tried_done d) = tried_done (loose_rep_min d)
    tried_min (tried_lost d) = tried_lost (loose_rep_min d)

    tried_max : {m : Mode} {e : Expression} {i : ℕ} {s : State} {o : Outcome} → Tried (Run m (at_most e i)) s o → Tried (Run m (RepMax e i)) s o
    tried_max (tried_done d) = tried_done (loose_rep_max d)
    tried_max (tried_lost d) = tried_lost (loose_rep_max d)

    tried_min_max : {m : Mode} {e : Expression} {i j : ℕ} {s : State} {o : Outcome} → Tried (Run m (from_to e i j)) s o → Tried (Run m (RepMinMax e i j)) s o
    tried_min_max (tried_done d) = tried_done (loose_rep_min_max d)
    tried_min_max (tried_lost d) = tried_lost (loose_rep_min_max d)

    tried_skips : {s : State} {o : Outcome} → Tried (Run Between skipped) s o → Tried (Skipping NonAtomicMode) s o
    tried_skips (tried_done d) = tried_done (loose_skips d)
    tried_skips (tried_lost d) = tried_lost (loose_skips d)

    won : {k : Task} {s t : State} {us : Trees} → Tried k s (Success t us) → DoesLoosely g classes k s (Done t us)
    won (tried_done d) = d

    at_stack : {k : Task} {s : State} {ts : List Text} {o : Ending} → ts ≡ s.stack → DoesLoosely g classes k s o → DoesLoosely g classes k (with_left ts s) o
    at_stack {k = k} {o = o} e d = subst (λ x. DoesLoosely g classes k x o) (sym (unmoved e)) d

    ends_at : {k : Task} {s t : State} {us : Trees} → t ≡ s → DoesLoosely g classes k s (Done t us) → DoesLoosely g classes k s (Done s us)
    ends_at {k = k} {s = s} {us = us} e d = subst (λ x. DoesLoosely g classes k s (Done x us)) e d

    tried_right : {m : Mode} {a b : Expression} {s : State} {o : Outcome} → Safe g a → Tried (Run m a) s Failure → Tried (Run m b) s o → Tried (Run m (Choice a b)) s o
    tried_right c (tried_lost d) (tried_done f) = tried_done (loose_right d (at_stack (lost_stack (kept_safe c d)) f))
    tried_right c (tried_lost d) (tried_lost f) = tried_lost (loose_right d (at_stack (lost_stack (kept_safe c d)) f))

    tried_opt : {m : Mode} {e : Expression} {s : State} → Safe g e → Tried (Run m e) s Failure → Tried (Run m (Opt e)) s (Success s None')
    tried_opt c (tried_lost d) = tried_done (ends_at (unmoved (lost_stack (kept_safe c d))) (loose_opt_none d))

    tried_rep : {m : Mode} {e : Expression} {s : State} → Safe g e → Tried (Run m e) s Failure → Tried (Run m (Rep e)) s (Success s None')
    tried_rep c (tried_lost d) = tried_done (ends_at (unmoved (lost_stack (kept_safe c d))) (loose_rep_none d))

    tried_seq : {m : Mode} {a b : Expression} {s : State} → Tried (Run m a) s Failure → Tried (Run m (Seq a b)) s Failure
    tried_seq (tried_lost d) = tried_lost (loose_seq_first d)

    tried_second : {m : Mode} {a b : Expression} {s t u : State} {us vs : Trees} → DoesLoosely g classes (Run m a) s (Done t us) → DoesLoosely g classes (Skipping m) t (Done u vs) → Tried (Run m b) u Failure → Tried (Run m (Seq a b)) s Failure
    tried_second d k (tried_lost f) = tried_lost (loose_seq_second d k f)

    -- behind a failed turn the stack is as before it: put back in NonAtomic, and elsewhere nothing was skipped
    behind : (m : Mode) {s t : State} {us : Trees} {ts : List Text} → DoesLoosely g classes (Skipping m) s (Done t us) → ts ≡ t.stack → behind_turn m s ts ≡ s.stack
    behind NonAtomicMode k e = refl
    behind AtomicMode loose_atomic e = e
    behind CompoundAtomicMode loose_compound_atomic e = e
    behind Between loose_between e = e

    tried_turn : {m : Mode} {e : Expression} {s t : State} {us : Trees} → Safe g e → DoesLoosely g classes (Skipping m) s (Done t us) → Tried (Run m e) t Failure → Tried (Turns m e) s (Success s None')
    tried_turn {m = m} c k (tried_lost d) = tried_done (ends_at (unmoved (behind m k (lost_stack (kept_safe c d)))) (loose_turn_none k d))

    to_second : {k : Task} {s : State} {o : Outcome} → Does g classes k s o → IsOk k → Tried k s o
    to_second (str {t = t} {s = s}) c = tried_leaving _ (text_outcome nat_eq t s) loose_str
    to_second (insens {t = t} {s = s}) c = tried_leaving _ (text_outcome eq_ignore_ascii_case t s) loose_insens
    to_second (range {a = a} {b = b} {s = s}) c = tried_leaving _ (character_outcome (range_set a b) s) loose_range
    to_second (slice {i = i} {j = j} {s = s}) c = tried_leaving _ (slice_outcome i j s) loose_slice
    to_second skip c = tried_done loose_skip
    to_second (call {n = n} {r = r} h d) c = tried_call h (to_second d (restored.bodies n r h))
    to_second (other {o = o} h b) c = tried_leaving _ o (loose_other h b)
    to_second (pos_pred d) c = tried_look (to_second d (λ p h. c p (of_pos_pred h)))
    to_second (neg_pred d) c = tried_not_look (to_second d (λ p h. c p (of_neg_pred h)))
    to_second (push d) c = tried_push (to_second d (λ p h. c p (of_push h)))
    to_second push_literal c = tried_done loose_push_literal
    to_second (tag d) c = tried_tag (to_second d (λ p h. c p (of_tag h)))
    to_second (restore d) c = tried_restore (to_second d (λ p h. c p (of_restore h)))
    to_second (seq a k b) c = tried_done (loose_seq (won (to_second a (λ p h. c p (of_seq_left h)))) (won (to_second k tt)) (won (to_second b (λ p h. c p (of_seq_right h)))))
    to_second (seq_first a) c = tried_seq (to_second a (λ p h. c p (of_seq_left h)))
    to_second (seq_second a k b) c = tried_second (won (to_second a (λ p h. c p (of_seq_left h)))) (won (to_second k tt)) (to_second b (λ p h. c p (of_seq_right h)))
    to_second (left a) c = tried_done (loose_left (won (to_second a (λ p h. c p (of_choice_left h)))))
    to_second (right a b) c = tried_right (c _ whole).0 (to_second a (λ p h. c p (of_choice_left h))) (to_second b (λ p h. c p (of_choice_right h)))
    to_second (opt a) c = tried_done (loose_opt (won (to_second a (λ p h. c p (of_opt h)))))
    to_second (opt_none a) c = tried_opt (c _ whole) (to_second a (λ p h. c p (of_opt h)))
    to_second (rep a b) c = tried_done (loose_rep (won (to_second a (λ p h. c p (of_rep h)))) (won (to_second b c)))
    to_second (rep_none a) c = tried_rep (c _ whole) (to_second a (λ p h. c p (of_rep h)))
    to_second (turn k a b) c = tried_done (loose_turn (won (to_second k tt)) (won (to_second a (λ p h. c p (of_rep h)))) (won (to_second b c)))
    to_second (turn_none k a) c = tried_turn (c _ whole) (won (to_second k tt)) (to_second a (λ p h. c p (of_rep h)))
    to_second (rep_once d) c = tried_once (to_second d (safe_once_or_more c))
    to_second (rep_exact d) c = tried_exact (to_second d (safe_exactly c))
    to_second (rep_min d) c = tried_min (to_second d (safe_at_least c))
    to_second (rep_max d) c = tried_max (to_second d (safe_at_most c))
    to_second (rep_min_max d) c = tried_min_max (to_second d (safe_from_to c))
    to_second (skips d) c = tried_skips (to_second d safe_skipped)
    to_second atomic c = tried_done loose_atomic
    to_second compound_atomic c = tried_done loose_compound_atomic
    to_second between c = tried_done loose_between

    -- and back
    abbrev outcome_of : Ending → Outcome
    outcome_of (Done t us) = Success t us
    outcome_of (Lost ts) = Failure

    data Did (k : Task) (s : State) : Ending → Type 0 where
      did_done : {t : State} {us : Trees} → Does g classes k s (Success t us) → Did k s (Done t us)
      did_lost : {ts : List Text} → Does g classes k s Failure → Did k s (Lost ts)

    did_leaving : {k : Task} {s : State} (ts : List Text) (o : Outcome) → Does g classes k s o → Did k s (leaving ts o)
    did_leaving ts Failure d = did_lost d
    did_leaving ts (Success t us) d = did_done d

    did_call : {m : Mode} {n : Text} {s : State} {o : Ending} {r : Rule} → rule_of g n ≡ Some r → Did (Run (body_mode r m) r.body) s o → Did (Run m (Ident n)) s (called r m s o)
    did_call h (did_done d) = did_done (call h d)
    did_call h (did_lost d) = did_lost (call h d)

    did_look : {m : Mode} {e : Expression} {s : State} {o : Ending} → Did (Run m e) s o → Did (Run m (PosPred e)) s (looked s o)
    did_look (did_done d) = did_done (pos_pred d)
    did_look (did_lost d) = did_lost (pos_pred d)

    did_not_look : {m : Mode} {e : Expression} {s : State} {o : Ending} → Did (Run m e) s o → Did (Run m (NegPred e)) s (not_looked s o)
    did_not_look (did_done d) = did_lost (neg_pred d)
    did_not_look (did_lost d) = did_done (neg_pred d)

    did_push : {m : Mode} {e : Expression} {s : State} {o : Ending} → Did (Run m e) s o → Did (Run m (Push e)) s (pushing s o)
    did_push (did_done d) = did_done (push d)
    did_push (did_lost d) = did_lost (push d)

    did_tag : {m : Mode} {e : Expression} {t : Text} {s : State} {o : Ending} → Did (Run m e) s o → Did (Run m (NodeTag e t)) s o
    did_tag (did_done d) = did_done (tag d)
    did_tag (did_lost d) = did_lost (tag d)

    did_restore : {m : Mode} {e : Expression} {s : State} {o : Ending} → Did (Run m e) s o → Did (Run m (RestoreOnErr e)) s (restoring s o)
    did_restore (did_done d) = did_done (restore d)
    did_restore (did_lost d) = did_lost (restore d)

    did_once : {m : Mode} {e : Expression} {s : State} {o : Ending} → Did (Run m (once_or_more e)) s o → Did (Run m (RepOnce e)) s o
    did_once (did_done d) = did_done (rep_once d)
    did_once (did_lost d) = did_lost (rep_once d)

    did_exact : {m : Mode} {e : Expression} {i : ℕ} {s : State} {o : Ending} → Did (Run m (exactly e i)) s o → Did (Run m (RepExact e i)) s o
    did_exact (did_done d) = did_done (rep_exact d)
    did_exact (did_lost d) = did_lost (rep_exact d)

    did_min : {m : Mode} {e : Expression} {i : ℕ} {s : State} {o : Ending} → Did (Run m (at_least e i)) s o → Did (Run m (RepMin e i)) s o
    did_min (did_done d) = did_done (rep_min d)
    did_min (did_lost d) = did_lost (rep_min d)

    did_max : {m : Mode} {e : Expression} {i : ℕ} {s : State} {o : Ending} → Did (Run m (at_most e i)) s o → Did (Run m (RepMax e i)) s o
    did_max (did_done d) = did_done (rep_max d)
    did_max (did_lost d) = did_lost (rep_max d)

    did_min_max : {m : Mode} {e : Expression} {i j : ℕ} {s : State} {o : Ending} → Did (Run m (from_to e i j)) s o → Did (Run m (RepMinMax e i j)) s o
    did_min_max (did_done d) = did_done (rep_min_max d)
    did_min_max (did_lost d) = did_lost (rep_min_max d)

    did_skips : {s : State} {o : Ending} → Did (Run Between skipped) s o → Did (Skipping NonAtomicMode) s o
    did_skips (did_done d) = did_done (skips d)
    did_skips (did_lost d) = did_lost (skips d)

    got : {k : Task} {s t : State} {us : Trees} → Did k s (Done t us) → Does g classes k s (Success t us)
    got (did_done d) = d

    missed : {k : Task} {s : State} {ts : List Text} → Did k s (Lost ts) → Does g classes k s Failure
    missed (did_lost d) = d

    did_right : {m : Mode} {a b : Expression} {s : State} {ts : List Text} {o : Ending} → ts ≡ s.stack → Does g classes (Run m a) s Failure → Did (Run m b) (with_left ts s) o → Did (Run m (Choice a b)) s o
    did_right e d (did_done f) = did_done (right d (from g classes (sym (unmoved e)) f))
    did_right e d (did_lost f) = did_lost (right d (from g classes (sym (unmoved e)) f))

    did_stay : {k : Task} {s t : State} → t ≡ s → Does g classes k s (Success s None') → Did k s (Done t None')
    did_stay {k = k} {s = s} e d = subst (λ x. Did k s (Done x None')) (sym e) (did_done d)

    to_first : {k : Task} {s : State} {o : Ending} → DoesLoosely g classes k s o → IsOk k → Did k s o
    to_first (loose_str {t = t} {s = s}) c = did_leaving _ (text_outcome nat_eq t s) str
    to_first (loose_insens {t = t} {s = s}) c = did_leaving _ (text_outcome eq_ignore_ascii_case t s) insens
    to_first (loose_range {a = a} {b = b} {s = s}) c = did_leaving _ (character_outcome (range_set a b) s) range
    to_first (loose_slice {i = i} {j = j} {s = s}) c = did_leaving _ (slice_outcome i j s) slice
    to_first loose_skip c = did_done skip
    to_first (loose_call {n = n} {r = r} h d) c = did_call h (to_first d (restored.bodies n r h))
    to_first (loose_other {o = o} h b) c = did_leaving _ o (other h b)
    to_first (loose_pos_pred d) c = did_look (to_first d (λ p h. c p (of_pos_pred h)))
    to_first (loose_neg_pred d) c = did_not_look (to_first d (λ p h. c p (of_neg_pred h)))
    to_first (loose_push d) c = did_push (to_first d (λ p h. c p (of_push h)))
    to_first loose_push_literal c = did_done push_literal
    to_first (loose_tag d) c = did_tag (to_first d (λ p h. c p (of_tag h)))
    to_first (loose_restore d) c = did_restore (to_first d (λ p h. c p (of_restore h)))
    to_first (loose_seq a k b) c = did_done (seq (got (to_first a (λ p h. c p (of_seq_left h)))) (got (to_first k tt)) (got (to_first b (λ p h. c p (of_seq_right h)))))
    to_first (loose_seq_first a) c = did_lost (seq_first (missed (to_first a (λ p h. c p (of_seq_left h)))))
    to_first (loose_seq_second a k b) c = did_lost (seq_second (got (to_first a (λ p h. c p (of_seq_left h)))) (got (to_first k tt)) (missed (to_first b (λ p h. c p (of_seq_right h)))))
    to_first (loose_left a) c = did_done (left (got (to_first a (λ p h. c p (of_choice_left h)))))
    to_first (loose_right a b) c = did_right (lost_stack (kept_safe (c _ whole).0 a)) (missed (to_first a (λ p h. c p (of_choice_left h)))) (to_first b (λ p h. c p (of_choice_right h)))
    to_first (loose_opt a) c = did_done (opt (got (to_first a (λ p h. c p (of_opt h)))))
    to_first (loose_opt_none a) c = did_stay (unmoved (lost_stack (kept_safe (c _ whole) a))) (opt_none (missed (to_first a (λ p h. c p (of_opt h)))))
    to_first (loose_rep a b) c = did_done (rep (got (to_first a (λ p h. c p (of_rep h)))) (got (to_first b c)))
    to_first (loose_rep_none a) c = did_stay (unmoved (lost_stack (kept_safe (c _ whole) a))) (rep_none (missed (to_first a (λ p h. c p (of_rep h)))))
    to_first (loose_turn k a b) c = did_done (turn (got (to_first k tt)) (got (to_first a (λ p h. c p (of_rep h)))) (got (to_first b c)))
    to_first (loose_turn_none {m = m} k a) c = did_stay (unmoved (behind m k (lost_stack (kept_safe (c _ whole) a)))) (turn_none (got (to_first k tt)) (missed (to_first a (λ p h. c p (of_rep h)))))
    to_first (loose_rep_once d) c = did_once (to_first d (safe_once_or_more c))
    to_first (loose_rep_exact d) c = did_exact (to_first d (safe_exactly c))
    to_first (loose_rep_min d) c = did_min (to_first d (safe_at_least c))
    to_first (loose_rep_max d) c = did_max (to_first d (safe_at_most c))
    to_first (loose_rep_min_max d) c = did_min_max (to_first d (safe_from_to c))
    to_first (loose_skips d) c = did_skips (to_first d safe_skipped)
    to_first loose_atomic c = did_done atomic
    to_first loose_compound_atomic c = did_done compound_atomic
    to_first loose_between c = did_done between

    lost_one : {m : Mode} {e : Expression} {s : State} → Tried (Run m e) s Failure → (ts : List Text) × DoesLoosely g classes (Run m e) s (Lost ts)
    lost_one (tried_lost {ts = ts} d) = (ts, d)

pub same_endings : (g : Grammar) (classes : Classes) (e : Expression) (m : Mode) (s : State) → Restored g → IsSafe g e → SameEndings g classes e m s
same_endings g classes e m s r c = (
  (λ t us. ((λ d. won g classes r (to_second g classes r d c)), (λ d. got g classes r (to_first g classes r d c)))),
  ((λ d. lost_one g classes r (to_second g classes r d c)), (λ d. missed g classes r (to_first g classes r d.1 c))),
)
