-- A task has at most one outcome from one state, by at most one derivation.
use Rattle.std.proofs.Common.{◌≡◌, refl, sym, ◌∙◌, ap, ap₂, subst, Option, Some, None}
use Rattle.std.proofs.Math.Path.{contract}
use Rattle.base_language.specs.Language.Expression.{Grammar, Rule, rule_of}
use Rattle.base_language.specs.Language.State.{Classes, State, Trees, Outcome, Success, Failure, joined, None'}
use Rattle.base_language.specs.Language.Meaning.{Does, Task, Run, Skipping, Turns, str, insens, range, slice, skip, call, other, pos_pred, neg_pred, push, restore, seq, seq_first, seq_second, left, right, opt, opt_none, rep_none, turn, turn_none, rep_exact, rep_max, rep_min_max, skips, atomic, compound_atomic, between, ahead, not_ahead, pushed, body_mode, rep, rep_once, rep_min, push_literal, tag, with_token}
use Rattle.base_language.proofs.OneOutcome.{same, same_state, from}

-- values with the equation that a value is one of them are one
some_one : {A : Type 0} {o : Option A} {x y : A} (p : o ≡ Some x) (q : o ≡ Some y) → ◌≡◌ {A = (z : A) × (o ≡ Some z)} (x, p) (y, q)
some_one {A = A} {o = o} {x = x} p q = ap (picked (x, p)) (sym (contract p) ∙ contract q)
  where
    picked : (z : A) × (o ≡ Some z) → (w : Option A) × (o ≡ w) → (z : A) × (o ≡ Some z)
    picked d (Some z, r) = (z, r)
    picked d (None, r) = d

none_one : {A : Type 0} {o : Option A} (p q : o ≡ None) → p ≡ q
none_one {A = A} {o = o} p q = ap (picked p) (sym (contract p) ∙ contract q)
  where
    picked : o ≡ None → (w : Option A) × (o ≡ w) → o ≡ None
    picked d (Some z, r) = d
    picked d (None, r) = r

-- what is made of two parts, or of three, is one if they are
two : {A : Type 0} {B : A → Type 0} {C : Type 0} (make : (x : A) → B x → C) (x y : A) (u : B x) (v : B y) → x ≡ y → ((w : B x) → u ≡ w) → make x u ≡ make y v
two {A = A} {B = B} make x y u v p one = subst (λ z. (w : B z) → make x u ≡ make z w) p (λ w. ap (make x) (one w)) v

three : {A : Type 0} {B : A → Type 0} {C : (x : A) → B x → Type 0} {D : Type 0} (make : (x : A) (y : B x) → C x y → D) (x y : A) (u : B x) (v : B y) (s : C x u) (t : C y v)
    → x ≡ y → ((w : B x) → u ≡ w) → ((w : C x u) → s ≡ w) → make x u s ≡ make y v t
three {A = A} {B = B} {C = C} make x y u v s t p one last =
    subst (λ z. (w : B z) (r : C z w) → make x u s ≡ make z w r) p (λ w r. two (make x) u w s r (one w) last) v t

-- an outcome with its derivation
abbrev pub Answer : Grammar → Classes → Task → State → Type 0
Answer g classes k s = (o : Outcome) × Does g classes k s o

module _ (g : Grammar) (classes : Classes) where
  -- a success with its derivation
  abbrev Won : Task → State → Type 0
  Won k s = (t : State) × (us : Trees) × Does g classes k s (Success t us)

  won : {k : Task} {s : State} → Won k s → Answer g classes k s → Won k s
  won z (Success t us, d) = (t, us, d)
  won z (Failure, d) = z

  lost : {k : Task} {s : State} → Does g classes k s Failure → Answer g classes k s → Does g classes k s Failure
  lost z (Success t us, d) = z
  lost z (Failure, d) = d

  abbrev Same : {k : Task} {s : State} {o p : Outcome} → Does g classes k s o → Does g classes k s p → Type 0
  Same {k = k} {s = s} {o = o} {p = p} d e = ◌≡◌ {A = Answer g classes k s} (o, d) (p, e)

  both_won : {k : Task} {s : State} {t u : State} {us vs : Trees} {d : Does g classes k s (Success t us)} {e : Does g classes k s (Success u vs)} → Same d e → ◌≡◌ {A = Won k s} (t, us, d) (u, vs, e)
  unfolding won
  both_won {t = t} {us = us} {d = d} q = ap (won (t, us, d)) q

  both_lost : {k : Task} {s : State} {d e : Does g classes k s Failure} → Same d e → d ≡ e
  unfolding lost
  both_lost {d = d} q = ap (lost d) q

  lift : {k l : Task} {s : State} {o p : Outcome} {d : Does g classes k s o} {e : Does g classes k s p} (f : Outcome → Outcome) (make : (q : Outcome) → Does g classes k s q → Does g classes l s (f q)) → Same d e → Same (make o d) (make p e)
  lift {k = k} {l = l} {s = s} f make q = ap {A = Answer g classes k s} {B = Answer g classes l s} (λ x. (f x.0, make x.0 x.1)) q

  one : {k : Task} {s : State} {o p : Outcome} (d : Does g classes k s o) (e : Does g classes k s p) → ◌≡◌ {A = Answer g classes k s} (o, d) (p, e)
  one str str = refl
  one insens insens = refl
  one range range = refl
  one slice slice = refl
  one skip skip = refl
  one (call {m = m} {n = n} {s = s} {o = o} {r = r} h d) (call {o = p} {r = q} i e) =
      two {A = (z : Rule) × (rule_of g n ≡ Some z)} {B = λ z. Answer g classes (Run (body_mode z.0 m) z.0.body) s} (λ z w. (with_token z.0 m s w.0, call z.1 w.1)) (r, h) (q, i) (o, d) (p, e) (some_one h i) (λ w. one d w.1)
  one (call h d) (other i c) = cc
  one (other h b) (call i d) = cc
  one (other h b) (other i c) = ap₂ (λ z w. (w.0, other z w.1)) (none_one h i) (some_one b c)
  one (pos_pred {s = s} d) (pos_pred e) = lift (ahead s) (λ q x. pos_pred x) (one d e)
  one (neg_pred {s = s} d) (neg_pred e) = lift (not_ahead s) (λ q x. neg_pred x) (one d e)
  one (push {s = s} d) (push e) = lift (pushed s) (λ q x. push x) (one d e)
  one push_literal push_literal = refl
  one (tag d) (tag e) = lift (λ o. o) (λ q x. tag x) (one d e)
  one (restore d) (restore e) = lift (λ o. o) (λ q x. restore x) (one d e)
  one (seq {m = m} {a = l} {b = r} {s = s} {t = t} {u = u} {us = us} {vs = vs} a k b) (seq c i d) =
      three {A = Won (Run m l) s} {B = λ x. Won (Skipping m) x.0} {C = λ x y. Won (Run m r) y.0} (λ x y z. (Success z.0 (joined x.1 (joined y.1 z.1)), seq x.2 y.2 z.2)) (_, _, a) (_, _, c) (_, _, k) (_, _, i) (_, _, b) (_, _, d) (both_won (one a c)) (λ w. both_won (one k w.2)) (λ w. both_won (one b w.2))
  one (seq a k b) (seq_first c) = let h = same g classes a c in cc
  one (seq a k b) (seq_second c i d) = let h = same g classes (seq a k b) (seq_second c i d) in cc
  one (seq_first a) (seq c i d) = let h = same g classes a c in cc
  one (seq_first a) (seq_first c) = ap (λ x. (Failure, seq_first x)) (both_lost (one a c))
  one (seq_first a) (seq_second c i d) = let h = same g classes a c in cc
  one (seq_second a k b) (seq c i d) = let h = same g classes (seq_second a k b) (seq c i d) in cc
  one (seq_second a k b) (seq_first c) = let h = same g classes a c in cc
  one (seq_second {m = m} {a = l} {b = r} {s = s} a k b) (seq_second c i d) =
      three {A = Won (Run m l) s} {B = λ x. Won (Skipping m) x.0} {C = λ x y. Does g classes (Run m r) y.0 Failure} (λ x y z. (Failure, seq_second x.2 y.2 z)) (_, _, a) (_, _, c) (_, _, k) (_, _, i) b d (both_won (one a c)) (λ w. both_won (one k w.2)) (λ w. both_lost (one b w))
  one (left a) (left b) = ap (λ x. (Success x.0 x.1, left x.2)) (both_won (one a b))
  one (left a) (right b c) = let h = same g classes a b in cc
  one (right a b) (left c) = let h = same g classes a c in cc
  one (right a b) (right c d) = ap₂ (λ x y. (y.0, right x y.1)) (both_lost (one a c)) (one b d)
  one (opt a) (opt b) = ap (λ x. (Success x.0 x.1, opt x.2)) (both_won (one a b))
  one (opt a) (opt_none b) = let h = same g classes a b in cc
  one (opt_none a) (opt b) = let h = same g classes a b in cc
  one (opt_none {s = s} a) (opt_none b) = ap (λ x. (Success s None', opt_none x)) (both_lost (one a b))
  one (rep {m = m} {e = f} {s = s} a b) (rep c d) =
      two {A = Won (Run m f) s} {B = λ x. Won (Turns m f) x.0} (λ x y. (Success y.0 (joined x.1 y.1), rep x.2 y.2)) (_, _, a) (_, _, c) (_, _, b) (_, _, d) (both_won (one a c)) (λ w. both_won (one b w.2))
  one (rep a b) (rep_none c) = let h = same g classes a c in cc
  one (rep_none a) (rep b c) = let h = same g classes a b in cc
  one (rep_none {s = s} a) (rep_none b) = ap (λ x. (Success s None', rep_none x)) (both_lost (one a b))
  one (turn {m = m} {e = f} {s = s} a b c) (turn d h i) =
      three {A = Won (Skipping m) s} {B = λ x. Won (Run m f) x.0} {C = λ x y. Won (Turns m f) y.0} (λ x y z. (Success z.0 (joined x.1 (joined y.1 z.1)), turn x.2 y.2 z.2)) (_, _, a) (_, _, d) (_, _, b) (_, _, h) (_, _, c) (_, _, i) (both_won (one a d)) (λ w. both_won (one b w.2)) (λ w. both_won (one c w.2))
  one (turn a b c) (turn_none d e) =
      let h = same g classes a d in
      let i = same g classes b (from g classes (same_state h) e) in cc
  one (turn_none a b) (turn c d e) =
      let h = same g classes a c in
      let i = same g classes b (from g classes (same_state h) d) in cc
  one (turn_none {m = m} {e = f} {s = s} a b) (turn_none c d) =
      two {A = Won (Skipping m) s} {B = λ x. Does g classes (Run m f) x.0 Failure} (λ x y. (Success s None', turn_none x.2 y)) (_, _, a) (_, _, c) b d (both_won (one a c)) (λ w. both_lost (one b w))
  one (rep_once d) (rep_once e) = lift (λ o. o) (λ q x. rep_once x) (one d e)
  one (rep_exact d) (rep_exact e) = lift (λ o. o) (λ q x. rep_exact x) (one d e)
  one (rep_min d) (rep_min e) = lift (λ o. o) (λ q x. rep_min x) (one d e)
  one (rep_max d) (rep_max e) = lift (λ o. o) (λ q x. rep_max x) (one d e)
  one (rep_min_max d) (rep_min_max e) = lift (λ o. o) (λ q x. rep_min_max x) (one d e)
  one (skips d) (skips e) = lift (λ o. o) (λ q x. skips x) (one d e)
  one atomic atomic = refl
  one compound_atomic compound_atomic = refl
  one between between = refl

  pub one_answer : {k : Task} {s : State} (x y : Answer g classes k s) → x ≡ y
  one_answer x y = one x.1 y.1
