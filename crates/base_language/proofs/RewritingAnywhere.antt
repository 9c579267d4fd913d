-- Rewritings at a place, in a larger expression.
use Rattle.std.proofs.Common.{ℕ}
use Rattle.base_language.specs.Language.Expression.{Expression, PosPred, NegPred, Seq, Choice, Opt, Rep, RepOnce, RepExact, RepMin, RepMax, RepMinMax, Push, whole, of_pos_pred, of_neg_pred, of_seq_left, of_seq_right, of_choice_left, of_choice_right, of_opt, of_rep, of_rep_once, of_rep_exact, of_rep_min, of_rep_max, of_rep_min_max, of_push}
use Rattle.base_language.specs.Rewritings.Rewriting.{Within, here, in_pos_pred, in_neg_pred, in_seq_left, in_seq_right, in_choice_left, in_choice_right, in_opt, in_rep, in_rep_once, in_rep_exact, in_rep_min, in_rep_max, in_rep_min_max, in_push, Many, no_step, one_step, Nowhere, IsDone}

module _ (R : Expression → Expression → Type 0) where
  -- it does not apply at the root
  abbrev pub NotHere : Expression → Type 0
  NotHere e = (q : Expression) → R e q → ⊥

  pub along : (f : Expression → Expression) → ((a b : Expression) → Within R a b → Within R (f a) (f b)) → {a b : Expression} → Many R a b → Many R (f a) (f b)
  along f i no_step = no_step
  along f i (one_step w m) = one_step (i _ _ w) (along f i m)

  pub after : {a b c : Expression} → Many R a b → Many R b c → Many R a c
  after no_step m = m
  after (one_step w l) m = one_step w (after l m)

  pub done_pos_pred : {a b : Expression} → NotHere (PosPred b) → IsDone R a b → IsDone R (PosPred a) (PosPred b)
  done_pos_pred {b = b} n d = record { reached = along PosPred (λ x y w. in_pos_pred w) d.reached; nowhere = at }
    where
      at : Nowhere R (PosPred b)
      at p q whole r = n q r
      at p q (of_pos_pred k) r = d.nowhere p q k r

  pub done_neg_pred : {a b : Expression} → NotHere (NegPred b) → IsDone R a b → IsDone R (NegPred a) (NegPred b)
  done_neg_pred {b = b} n d = record { reached = along NegPred (λ x y w. in_neg_pred w) d.reached; nowhere = at }
    where
      at : Nowhere R (NegPred b)
      at p q whole r = n q r
      at p q (of_neg_pred k) r = d.nowhere p q k r

  pub done_opt : {a b : Expression} → NotHere (Opt b) → IsDone R a b → IsDone R (Opt a) (Opt b)
  done_opt {b = b} n d = record { reached = along Opt (λ x y w. in_opt w) d.reached; nowhere = at }
    where
      at : Nowhere R (Opt b)
      at p q whole r = n q r
      at p q (of_opt k) r = d.nowhere p q k r

  pub done_rep : {a b : Expression} → NotHere (Rep b) → IsDone R a b → IsDone R (Rep a) (Rep b)
  done_rep {b = b} n d = record { reached = along Rep (λ x y w. in_rep w) d.reached; nowhere = at }
    where
      at : Nowhere R (Rep b)
      at p q whole r = n q r
      at p q (of_rep k) r = d.nowhere p q k r

  pub done_rep_once : {a b : Expression} → NotHere (RepOnce b) → IsDone R a b → IsDone R (RepOnce a) (RepOnce b)
  done_rep_once {b = b} n d = record { reached = along RepOnce (λ x y w. in_rep_once w) d.reached; nowhere = at }
    where
      at : Nowhere R (RepOnce b)
      at p q whole r = n q r
      at p q (of_rep_once k) r = d.nowhere p q k r

  pub done_rep_exact : {a b : Expression} {i : ℕ} → NotHere (RepExact b i) → IsDone R a b → IsDone R (RepExact a i) (RepExact b i)
  done_rep_exact {b = b} {i = i} n d = record { reached = along (λ x. RepExact x i) (λ x y w. in_rep_exact w) d.reached; nowhere = at }
    where
      at : Nowhere R (RepExact b i)
      at p q whole r = n q r
      at p q (of_rep_exact k) r = d.nowhere p q k r

  pub done_rep_min : {a b : Expression} {i : ℕ} → NotHere (RepMin b i) → IsDone R a b → IsDone R (RepMin a i) (RepMin b i)
  done_rep_min {b = b} {i = i} n d = record { reached = along (λ x. RepMin x i) (λ x y w. in_rep_min w) d.reached; nowhere = at }
    where
      at : Nowhere R (RepMin b i)
      at p q whole r = n q r
      at p q (of_rep_min k) r = d.nowhere p q k r

  pub done_rep_max : {a b : Expression} {i : ℕ} → NotHere (RepMax b i) → IsDone R a b → IsDone R (RepMax a i) (RepMax b i)
  done_rep_max {b = b} {i = i} n d = record { reached = along (λ x. RepMax x i) (λ x y w. in_rep_max w) d.reached; nowhere = at }
    where
      at : Nowhere R (RepMax b i)
      at p q whole r = n q r
      at p q (of_rep_max k) r = d.nowhere p q k r

  pub done_rep_min_max : {a b : Expression} {i j : ℕ} → NotHere (RepMinMax b i j) → IsDone R a b → IsDone R (RepMinMax a i j) (RepMinMax b i j)
  done_rep_min_max {b = b} {i = i} {j = j} n d = record { reached = along (λ x. RepMinMax x i j) (λ x y w. in_rep_min_max w) d.reached; nowhere = at }
    where
      at : Nowhere R (RepMinMax b i j)
      at p q whole r = n q r
      at p q (of_rep_min_max k) r = d.nowhere p q k r

  pub done_push : {a b : Expression} → NotHere (Push b) → IsDone R a b → IsDone R (Push a) (Push b)
  done_push {b = b} n d = record { reached = along Push (λ x y w. in_push w) d.reached; nowhere = at }
    where
      at : Nowhere R (Push b)
      at p q whole r = n q r
      at p q (of_push k) r = d.nowhere p q k r

  pub done_seq : {a b c d : Expression} → NotHere (Seq b d) → IsDone R a b → IsDone R c d → IsDone R (Seq a c) (Seq b d)
  done_seq {b = b} {c = c} {d = d} n i j = record {
    reached = after (along (λ x. Seq x c) (λ x y w. in_seq_left w) i.reached) (along (Seq b) (λ x y w. in_seq_right w) j.reached);
    nowhere = at;
  }
    where
      at : Nowhere R (Seq b d)
      at p q whole r = n q r
      at p q (of_seq_left k) r = i.nowhere p q k r
      at p q (of_seq_right k) r = j.nowhere p q k r

  pub done_choice : {a b c d : Expression} → NotHere (Choice b d) → IsDone R a b → IsDone R c d → IsDone R (Choice a c) (Choice b d)
  done_choice {b = b} {c = c} {d = d} n i j = record {
    reached = after (along (λ x. Choice x c) (λ x y w. in_choice_left w) i.reached) (along (Choice b) (λ x y w. in_choice_right w) j.reached);
    nowhere = at;
  }
    where
      at : Nowhere R (Choice b d)
      at p q whole r = n q r
      at p q (of_choice_left k) r = i.nowhere p q k r
      at p q (of_choice_right k) r = j.nowhere p q k r

  pub first : {a b c : Expression} → R a b → IsDone R b c → IsDone R a c
  first r d = record { reached = one_step (here r) d.reached; nowhere = d.nowhere }
