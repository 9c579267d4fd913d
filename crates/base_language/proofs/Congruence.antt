-- Under one grammar, an expression may stand for another in any place.
use Rattle.std.proofs.Common.{ℕ, zero, suc, ◌-◌, min, List, [], ◌∷◌, ◌++◌, replicate}
use Rattle.base_language.specs.Language.Text.{Text}
use Rattle.base_language.specs.Language.Expression.{Grammar, Expression, PosPred, NegPred, Seq, Choice, Opt, Rep, RepOnce, RepExact, RepMin, RepMax, RepMinMax, Push, RestoreOnErr, NodeTag}
use Rattle.base_language.specs.Language.State.{Classes, Mode, State, Outcome}
use Rattle.base_language.specs.Language.Meaning.{Does, Run, Turns, pos_pred, neg_pred, push, restore, seq, seq_first, seq_second, left, right, opt, opt_none, rep_none, turn, turn_none, rep_exact, rep_max, rep_min_max, in_sequence, rep, rep_once, rep_min, tag}

module _ (g : Grammar) (classes : Classes) (m : Mode) where
  -- what a does, b does
  abbrev pub Implies : Expression → Expression → Type 0
  Implies a b = (s : State) (o : Outcome) → Does g classes (Run m a) s o → Does g classes (Run m b) s o

  pub itself : (a : Expression) → Implies a a
  itself a s o d = d

  pub pos_pred_same : {a b : Expression} → Implies a b → Implies (PosPred a) (PosPred b)
  pos_pred_same i s _ (pos_pred d) = pos_pred (i _ _ d)

  pub neg_pred_same : {a b : Expression} → Implies a b → Implies (NegPred a) (NegPred b)
  neg_pred_same i s _ (neg_pred d) = neg_pred (i _ _ d)

  pub push_same : {a b : Expression} → Implies a b → Implies (Push a) (Push b)
  push_same i s _ (push d) = push (i _ _ d)

  pub tag_same : (t : Text) {a b : Expression} → Implies a b → Implies (NodeTag a t) (NodeTag b t)
  tag_same t i s _ (tag d) = tag (i _ _ d)

  pub restore_same : {a b : Expression} → Implies a b → Implies (RestoreOnErr a) (RestoreOnErr b)
  restore_same i s _ (restore d) = restore (i _ _ d)

  pub seq_same : {a b c d : Expression} → Implies a c → Implies b d → Implies (Seq a b) (Seq c d)
  seq_same i j s _ (seq a k b) = seq (i _ _ a) k (j _ _ b)
  seq_same i j s _ (seq_first a) = seq_first (i _ _ a)
  seq_same i j s _ (seq_second a k b) = seq_second (i _ _ a) k (j _ _ b)

  pub choice_same : {a b c d : Expression} → Implies a c → Implies b d → Implies (Choice a b) (Choice c d)
  choice_same i j s _ (left a) = left (i _ _ a)
  choice_same i j s _ (right a b) = right (i _ _ a) (j _ _ b)

  pub opt_same : {a b : Expression} → Implies a b → Implies (Opt a) (Opt b)
  opt_same i s _ (opt a) = opt (i _ _ a)
  opt_same i s _ (opt_none a) = opt_none (i _ _ a)

  turns_same : {a b : Expression} → Implies a b → (s : State) (o : Outcome) → Does g classes (Turns m a) s o → Does g classes (Turns m b) s o
  turns_same i s _ (turn k a b) = turn k (i _ _ a) (turns_same i _ _ b)
  turns_same i s _ (turn_none k a) = turn_none k (i _ _ a)

  pub rep_same : {a b : Expression} → Implies a b → Implies (Rep a) (Rep b)
  rep_same i s _ (rep a b) = rep (i _ _ a) (turns_same i _ _ b)
  rep_same i s _ (rep_none a) = rep_none (i _ _ a)

  -- one by one
  data All' : List Expression → List Expression → Type 0 where
    none : All' [] []
    also : {a b : Expression} {as' bs : List Expression} → Implies a b → All' as' bs → All' (a ∷ as') (b ∷ bs)

  sequence_same : {as' bs : List Expression} → All' as' bs → Implies (in_sequence as') (in_sequence bs)
  sequence_same none s o d = d
  sequence_same (also i none) s o d = i s o d
  sequence_same (also i (also j k)) s o d = seq_same i (sequence_same (also j k)) s o d

  copies_same : (n : ℕ) {a b : Expression} → Implies a b → All' (replicate n a) (replicate n b)
  copies_same zero i = none
  copies_same (suc n) i = also i (copies_same n i)

  both_same : {as' bs cs ds : List Expression} → All' as' bs → All' cs ds → All' (as' ++ cs) (bs ++ ds)
  both_same none k = k
  both_same (also i j) k = also i (both_same j k)

  pub rep_once_same : {a b : Expression} → Implies a b → Implies (RepOnce a) (RepOnce b)
  rep_once_same i s o (rep_once d) = rep_once (seq_same i (rep_same i) _ _ d)

  pub rep_exact_same : (n : ℕ) {a b : Expression} → Implies a b → Implies (RepExact a n) (RepExact b n)
  rep_exact_same n i s o (rep_exact d) = rep_exact (sequence_same (copies_same n i) _ _ d)

  pub rep_min_same : (n : ℕ) {a b : Expression} → Implies a b → Implies (RepMin a n) (RepMin b n)
  rep_min_same n i s o (rep_min d) = rep_min (sequence_same (both_same (copies_same n i) (also (rep_same i) none)) _ _ d)

  pub rep_max_same : (n : ℕ) {a b : Expression} → Implies a b → Implies (RepMax a n) (RepMax b n)
  rep_max_same n i s o (rep_max d) = rep_max (sequence_same (copies_same n (opt_same i)) _ _ d)

  pub rep_min_max_same : (l n : ℕ) {a b : Expression} → Implies a b → Implies (RepMinMax a l n) (RepMinMax b l n)
  rep_min_max_same l n i s o (rep_min_max d) = rep_min_max (sequence_same (both_same (copies_same (min l n) i) (copies_same (n - l) (opt_same i))) _ _ d)
