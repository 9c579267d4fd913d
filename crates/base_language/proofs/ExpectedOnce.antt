-- Two derivations from one start tell the same names.
use Rattle.std.proofs.Common.{◌≡◌, ℕ, List, [], ◌++◌, ◌&&◌, refl, sym, ◌∙◌, ap, ap₂}
use Rattle.base_language.specs.Language.Text.{Text}
use Rattle.base_language.specs.Language.Expression.{Grammar, Rule}
use Rattle.base_language.specs.Language.State.{Classes, Mode, State, Outcome}
use Rattle.base_language.specs.Language.Meaning.{Does, Task, Run, str, insens, range, slice, skip, call, other, pos_pred, neg_pred, push, restore, seq, seq_first, seq_second, left, right, opt, opt_none, rep_none, turn, turn_none, rep_exact, rep_max, rep_min_max, skips, atomic, compound_atomic, between, body_mode, seen_from, gives_token, rep, rep_once, rep_min, push_literal, tag}
use Rattle.base_language.specs.Language.FurthestFailure.{furthest, is_eoi}
use Rattle.base_language.specs.Language.Expected.{expected, expected_at, told}
use Rattle.base_language.proofs.FailurePlaces.{one_place, subst_keeps}
use Rattle.base_language.proofs.OneOutcome.{same, same_state, from, with_rule}
use Rattle.base_language.proofs.Basics.{same_some}

module _ (g : Grammar) (classes : Classes) (place : ℕ) where
  same_from : {k : Task} {s t : State} {o : Outcome} (e : s ≡ t) (d : Does g classes k t o) → expected_at place (from g classes e d) ≡ expected_at place d
  unfolding from
  same_from {k = k} {o = o} e d = subst_keeps (λ x. Does g classes k x o) (λ x d. expected_at place d) (sym e) d

  same_with : (m : Mode) {s : State} {o : Outcome} {q r : Rule} (e : q ≡ r) (d : Does g classes (Run (body_mode r m) r.body) s o) → expected_at place (with_rule g classes m e d) ≡ expected_at place d
  unfolding with_rule
  same_with m {s = s} {o = o} e d = subst_keeps (λ x. Does g classes (Run (body_mode x m) x.body) s o) (λ x d. expected_at place d) (sym e) d

  in_three : {a b c x y z : List Text} → a ≡ x → b ≡ y → c ≡ z → a ++ (b ++ c) ≡ x ++ (y ++ z)
  in_three p q r = cc

  pub one_list : {k : Task} {s : State} {o p : Outcome} (d : Does g classes k s o) (e : Does g classes k s p) → expected_at place d ≡ expected_at place e
  one_list str str = refl
  one_list insens insens = refl
  one_list range range = refl
  one_list slice slice = refl
  one_list skip skip = refl
  one_list (call {m = m} {n = n} {s = s} {o = o} {r = r} h d) (call i e) =
      let q = same_some (sym h ∙ i) in
      let f = same g classes d (with_rule g classes m q e) in
      let x = one_list d (with_rule g classes m q e) ∙ same_with m q e in
      ap (λ w. told (seen_from m && gives_token r.type_of m) n place s o w) x ∙ ap₂ (λ r o. told (seen_from m && gives_token r.type_of m) n place s o (expected_at place e)) q f
  one_list (call h d) (other i c) = cc
  one_list (other h b) (call i d) = cc
  one_list (other {m = m} {n = n} {s = s} h b) (other i c) = ap (λ o. told (seen_from m && is_eoi n) n place s o []) (same_some (sym b ∙ c))
  one_list (pos_pred d) (pos_pred e) = one_list d e
  one_list (neg_pred d) (neg_pred e) = refl
  one_list (push d) (push e) = one_list d e
  one_list push_literal push_literal = refl
  one_list (tag d) (tag e) = one_list d e
  one_list (restore d) (restore e) = one_list d e
  one_list (seq a k b) (seq c l d) =
      let e = same_state (same g classes a c) in
      let f = same_state (same g classes k (from g classes e l)) in
      in_three (one_list a c) (one_list k (from g classes e l) ∙ same_from e l) (one_list b (from g classes f d) ∙ same_from f d)
  one_list (seq a k b) (seq_first c) = let h = same g classes a c in cc
  one_list (seq a k b) (seq_second c l d) =
      let e = same_state (same g classes a c) in
      let f = same_state (same g classes k (from g classes e l)) in
      let h = same g classes b (from g classes f d) in cc
  one_list (seq_first a) (seq c l d) = let h = same g classes a c in cc
  one_list (seq_first a) (seq_first c) = one_list a c
  one_list (seq_first a) (seq_second c l d) = let h = same g classes a c in cc
  one_list (seq_second a k b) (seq c l d) =
      let e = same_state (same g classes a c) in
      let f = same_state (same g classes k (from g classes e l)) in
      let h = same g classes b (from g classes f d) in cc
  one_list (seq_second a k b) (seq_first c) = let h = same g classes a c in cc
  one_list (seq_second a k b) (seq_second c l d) =
      let e = same_state (same g classes a c) in
      let f = same_state (same g classes k (from g classes e l)) in
      in_three (one_list a c) (one_list k (from g classes e l) ∙ same_from e l) (one_list b (from g classes f d) ∙ same_from f d)
  one_list (left a) (left b) = one_list a b
  one_list (left a) (right b c) = let h = same g classes a b in cc
  one_list (right a b) (left c) = let h = same g classes a c in cc
  one_list (right a b) (right c d) = ap₂ (λ i j. i ++ j) (one_list a c) (one_list b d)
  one_list (opt a) (opt b) = one_list a b
  one_list (opt a) (opt_none b) = let h = same g classes a b in cc
  one_list (opt_none a) (opt b) = let h = same g classes a b in cc
  one_list (opt_none a) (opt_none b) = one_list a b
  one_list (rep a b) (rep c d) =
      let e = same_state (same g classes a c) in
      ap₂ (λ i j. i ++ j) (one_list a c) (one_list b (from g classes e d) ∙ same_from e d)
  one_list (rep a b) (rep_none c) = let h = same g classes a c in cc
  one_list (rep_none a) (rep b c) = let h = same g classes a b in cc
  one_list (rep_none a) (rep_none b) = one_list a b
  one_list (turn a b c) (turn d f h) =
      let e = same_state (same g classes a d) in
      let i = same_state (same g classes b (from g classes e f)) in
      in_three (one_list a d) (one_list b (from g classes e f) ∙ same_from e f) (one_list c (from g classes i h) ∙ same_from i h)
  one_list (turn a b c) (turn_none d f) =
      let e = same_state (same g classes a d) in
      let h = same g classes b (from g classes e f) in cc
  one_list (turn_none a b) (turn c d f) =
      let e = same_state (same g classes a c) in
      let h = same g classes b (from g classes e d) in cc
  one_list (turn_none a b) (turn_none c d) =
      let e = same_state (same g classes a c) in
      ap₂ (λ i j. i ++ j) (one_list a c) (one_list b (from g classes e d) ∙ same_from e d)
  one_list (rep_once d) (rep_once e) = one_list d e
  one_list (rep_exact d) (rep_exact e) = one_list d e
  one_list (rep_min d) (rep_min e) = one_list d e
  one_list (rep_max d) (rep_max e) = one_list d e
  one_list (rep_min_max d) (rep_min_max e) = one_list d e
  one_list (skips d) (skips e) = one_list d e
  one_list atomic atomic = refl
  one_list compound_atomic compound_atomic = refl
  one_list between between = refl

pub one_expected : (g : Grammar) (classes : Classes) {k : Task} {s : State} {o p : Outcome} (d : Does g classes k s o) (e : Does g classes k s p) → expected d ≡ expected e
one_expected g classes d e = ap (λ n. expected_at n d) (one_place g classes d e) ∙ one_list g classes (furthest e) d e
