-- Two derivations from one start have one place.
use Rattle.std.proofs.Common.{◌≡◌, ℕ, max, ◌&&◌, refl, sym, ◌∙◌, ap, ap₂, subst}
use Rattle.base_language.specs.Language.Expression.{Grammar, Rule}
use Rattle.base_language.specs.Language.State.{Classes, Mode, State, Outcome}
use Rattle.base_language.specs.Language.Meaning.{Does, Task, Run, str, insens, range, slice, skip, call, other, pos_pred, neg_pred, push, restore, seq, seq_first, seq_second, left, right, opt, opt_none, rep_none, turn, turn_none, rep_exact, rep_max, rep_min_max, skips, atomic, compound_atomic, between, body_mode, seen_from, gives_token, rep, rep_once, rep_min, push_literal, tag}
use Rattle.base_language.specs.Language.FurthestFailure.{furthest, place_of, is_eoi}
use Rattle.base_language.proofs.OneOutcome.{same, same_state, from, with_rule}
use Rattle.base_language.proofs.Basics.{same_some}
use mathlib.Core.Path.{path_j, subst_refl}

-- what does not change along a path
pub subst_keeps : {A X : Type 0} (P : A → Type 0) (f : (x : A) → P x → X) {x y : A} (p : x ≡ y) (u : P x) → f y (subst P p u) ≡ f x u
subst_keeps P f {x} p u = path_j (λ y p. f y (subst P p u) ≡ f x u) (ap (f x) (subst_refl P u)) p

module _ (g : Grammar) (classes : Classes) where
  same_from : {k : Task} {s t : State} {o : Outcome} (e : s ≡ t) (d : Does g classes k t o) → furthest (from g classes e d) ≡ furthest d
  unfolding from
  same_from {k = k} {o = o} e d = subst_keeps (λ x. Does g classes k x o) (λ x d. furthest d) (sym e) d

  same_with : (m : Mode) {s : State} {o : Outcome} {q r : Rule} (e : q ≡ r) (d : Does g classes (Run (body_mode r m) r.body) s o) → furthest (with_rule g classes m e d) ≡ furthest d
  unfolding with_rule
  same_with m {s = s} {o = o} e d = subst_keeps (λ x. Does g classes (Run (body_mode x m) x.body) s o) (λ x d. furthest d) (sym e) d

  max₃ : {a b c x y z : ℕ} → a ≡ x → b ≡ y → c ≡ z → max a (max b c) ≡ max x (max y z)
  max₃ p q r = cc

  pub one_place : {k : Task} {s : State} {o p : Outcome} (d : Does g classes k s o) (e : Does g classes k s p) → furthest d ≡ furthest e
  one_place str str = refl
  one_place insens insens = refl
  one_place range range = refl
  one_place slice slice = refl
  one_place skip skip = refl
  one_place (call {m = m} {s = s} h d) (call i e) =
      let q = same_some (sym h ∙ i) in
      let o = same g classes d (with_rule g classes m q e) in
      let x = one_place d (with_rule g classes m q e) ∙ same_with m q e in
      let y = ap₂ (λ r o. place_of (seen_from m && gives_token r.type_of m) s o) q o in
      ap₂ (λ i j. max i j) y x
  one_place (call h d) (other i c) = cc
  one_place (other h b) (call i d) = cc
  one_place (other {m = m} {n = n} {s = s} h b) (other i c) = ap (place_of (seen_from m && is_eoi n) s) (same_some (sym b ∙ c))
  one_place (pos_pred d) (pos_pred e) = one_place d e
  one_place (neg_pred d) (neg_pred e) = one_place d e
  one_place (push d) (push e) = one_place d e
  one_place push_literal push_literal = refl
  one_place (tag d) (tag e) = one_place d e
  one_place (restore d) (restore e) = one_place d e
  one_place (seq a k b) (seq c l d) =
      let e = same_state (same g classes a c) in
      let f = same_state (same g classes k (from g classes e l)) in
      max₃ (one_place a c) (one_place k (from g classes e l) ∙ same_from e l) (one_place b (from g classes f d) ∙ same_from f d)
  one_place (seq a k b) (seq_first c) = let h = same g classes a c in cc
  one_place (seq a k b) (seq_second c l d) =
      let e = same_state (same g classes a c) in
      let f = same_state (same g classes k (from g classes e l)) in
      let h = same g classes b (from g classes f d) in cc
  one_place (seq_first a) (seq c l d) = let h = same g classes a c in cc
  one_place (seq_first a) (seq_first c) = one_place a c
  one_place (seq_first a) (seq_second c l d) = let h = same g classes a c in cc
  one_place (seq_second a k b) (seq c l d) =
      let e = same_state (same g classes a c) in
      let f = same_state (same g classes k (from g classes e l)) in
      let h = same g classes b (from g classes f d) in cc
  one_place (seq_second a k b) (seq_first c) = let h = same g classes a c in cc
  one_place (seq_second a k b) (seq_second c l d) =
      let e = same_state (same g classes a c) in
      let f = same_state (same g classes k (from g classes e l)) in
      max₃ (one_place a c) (one_place k (from g classes e l) ∙ same_from e l) (one_place b (from g classes f d) ∙ same_from f d)
  one_place (left a) (left b) = one_place a b
  one_place (left a) (right b c) = let h = same g classes a b in cc
  one_place (right a b) (left c) = let h = same g classes a c in cc
  one_place (right a b) (right c d) = ap₂ (λ i j. max i j) (one_place a c) (one_place b d)
  one_place (opt a) (opt b) = one_place a b
  one_place (opt a) (opt_none b) = let h = same g classes a b in cc
  one_place (opt_none a) (opt b) = let h = same g classes a b in cc
  one_place (opt_none a) (opt_none b) = one_place a b
  one_place (rep a b) (rep c d) =
      let e = same_state (same g classes a c) in
      ap₂ (λ i j. max i j) (one_place a c) (one_place b (from g classes e d) ∙ same_from e d)
  one_place (rep a b) (rep_none c) = let h = same g classes a c in cc
  one_place (rep_none a) (rep b c) = let h = same g classes a b in cc
  one_place (rep_none a) (rep_none b) = one_place a b
  one_place (turn a b c) (turn d f h) =
      let e = same_state (same g classes a d) in
      let i = same_state (same g classes b (from g classes e f)) in
      max₃ (one_place a d) (one_place b (from g classes e f) ∙ same_from e f) (one_place c (from g classes i h) ∙ same_from i h)
  one_place (turn a b c) (turn_none d f) =
      let e = same_state (same g classes a d) in
      let h = same g classes b (from g classes e f) in cc
  one_place (turn_none a b) (turn c d f) =
      let e = same_state (same g classes a c) in
      let h = same g classes b (from g classes e d) in cc
  one_place (turn_none a b) (turn_none c d) =
      let e = same_state (same g classes a c) in
      ap₂ (λ i j. max i j) (one_place a c) (one_place b (from g classes e d) ∙ same_from e d)
  one_place (rep_once d) (rep_once e) = one_place d e
  one_place (rep_exact d) (rep_exact e) = one_place d e
  one_place (rep_min d) (rep_min e) = one_place d e
  one_place (rep_max d) (rep_max e) = one_place d e
  one_place (rep_min_max d) (rep_min_max e) = one_place d e
  one_place (skips d) (skips e) = one_place d e
  one_place atomic atomic = refl
  one_place compound_atomic compound_atomic = refl
  one_place between between = refl
