-- A task has at most one outcome from one state.
use Rattle.std.proofs.Common.{◌≡◌, refl, sym, ◌∙◌, ap, subst}
use Rattle.base_language.specs.Language.Expression.{Grammar, Rule}
use Rattle.base_language.specs.Language.State.{Classes, Mode, State, Trees, Outcome, Success}
use Rattle.base_language.specs.Language.Meaning.{Does, Task, Run, str, insens, range, slice, skip, call, other, pos_pred, neg_pred, push, restore, seq, seq_first, seq_second, left, right, opt, opt_none, rep_none, turn, turn_none, rep_exact, rep_max, rep_min_max, skips, atomic, compound_atomic, between, ahead, not_ahead, pushed, body_mode, rep, rep_once, rep_min, push_literal, tag}
use Rattle.base_language.proofs.Basics.{same_some}

pub same_state : {s t : State} {us vs : Trees} → Success s us ≡ Success t vs → s ≡ t
same_state h = cc

pub same_trees : {s t : State} {us vs : Trees} → Success s us ≡ Success t vs → us ≡ vs
same_trees h = cc

module _ (g : Grammar) (classes : Classes) where
  -- the same task from an equal state
  unfoldable pub from : {k : Task} {s t : State} {o : Outcome} → s ≡ t → Does g classes k t o → Does g classes k s o
  from {k} {s} {t} {o} e d = subst (λ x. Does g classes k x o) (sym e) d

  unfoldable pub with_rule : (m : Mode) {s : State} {o : Outcome} {q r : Rule} → q ≡ r → Does g classes (Run (body_mode r m) r.body) s o → Does g classes (Run (body_mode q m) q.body) s o
  with_rule m {s} {o} e d = subst (λ x. Does g classes (Run (body_mode x m) x.body) s o) (sym e) d

  pub same : {k : Task} {s : State} {o p : Outcome} → Does g classes k s o → Does g classes k s p → o ≡ p
  same str str = refl
  same insens insens = refl
  same range range = refl
  same slice slice = refl
  same skip skip = refl
  same (call {m = m} h d) (call i e) =
      let q = same_some (sym h ∙ i) in
      let o = same d (with_rule m q e) in cc
  same (call h d) (other i c) = cc
  same (other h b) (call i d) = cc
  same (other h b) (other i c) = cc
  same (pos_pred {s = s} d) (pos_pred e) = ap (ahead s) (same d e)
  same (neg_pred {s = s} d) (neg_pred e) = ap (not_ahead s) (same d e)
  same (push {s = s} d) (push e) = ap (pushed s) (same d e)
  same push_literal push_literal = refl
  same (tag d) (tag e) = same d e
  same (restore d) (restore e) = same d e
  same (seq a k b) (seq c l d) =
      let h = same a c in
      let i = same k (from (same_state h) l) in
      let j = same b (from (same_state i) d) in cc
  same (seq a k b) (seq_first c) = let h = same a c in cc
  same (seq a k b) (seq_second c l d) =
      let h = same a c in
      let i = same k (from (same_state h) l) in
      let j = same b (from (same_state i) d) in cc
  same (seq_first a) (seq c l d) = let h = same a c in cc
  same (seq_first a) (seq_first c) = refl
  same (seq_first a) (seq_second c l d) = refl
  same (seq_second a k b) (seq c l d) =
      let h = same a c in
      let i = same k (from (same_state h) l) in
      let j = same b (from (same_state i) d) in cc
  same (seq_second a k b) (seq_first c) = refl
  same (seq_second a k b) (seq_second c l d) = refl
  same (left a) (left b) = same a b
  same (left a) (right b c) = let h = same a b in cc
  same (right a b) (left c) = let h = same a c in cc
  same (right a b) (right c d) = same b d
  same (opt a) (opt b) = same a b
  same (opt a) (opt_none b) = let h = same a b in cc
  same (opt_none a) (opt b) = let h = same a b in cc
  same (opt_none a) (opt_none b) = refl
  same (rep a b) (rep c d) =
      let h = same a c in
      let i = same b (from (same_state h) d) in cc
  same (rep a b) (rep_none c) = let h = same a c in cc
  same (rep_none a) (rep b c) = let h = same a b in cc
  same (rep_none a) (rep_none b) = refl
  same (turn a b c) (turn d e f) =
      let h = same a d in
      let i = same b (from (same_state h) e) in
      let j = same c (from (same_state i) f) in cc
  same (turn a b c) (turn_none d e) =
      let h = same a d in
      let i = same b (from (same_state h) e) in cc
  same (turn_none a b) (turn c d e) =
      let h = same a c in
      let i = same b (from (same_state h) d) in cc
  same (turn_none a b) (turn_none c d) = refl
  same (rep_once d) (rep_once e) = same d e
  same (rep_exact d) (rep_exact e) = same d e
  same (rep_min d) (rep_min e) = same d e
  same (rep_max d) (rep_max e) = same d e
  same (rep_min_max d) (rep_min_max e) = same d e
  same (skips d) (skips e) = same d e
  same atomic atomic = refl
  same compound_atomic compound_atomic = refl
  same between between = refl
