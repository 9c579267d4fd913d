-- What holds of a rewriting at the root of an expression holds of it at any place, and of many of them.
use Rattle.base_language.specs.Language.Expression.{Grammar, Expression}
use Rattle.base_language.specs.Language.State.{Classes, Mode}
use Rattle.base_language.specs.Rewritings.Rewriting.{Within, here, in_pos_pred, in_neg_pred, in_seq_left, in_seq_right, in_choice_left, in_choice_right, in_opt, in_rep, in_rep_once, in_rep_exact, in_rep_min, in_rep_max, in_rep_min_max, in_push, in_restore, Many, no_step, one_step, in_tag}
use Rattle.base_language.proofs.Congruence as same
use Rattle.base_language.proofs.Congruence.{Implies}

module _ (f : Grammar) (classes : Classes) (m : Mode) where
  -- two expressions have the same outcomes
  abbrev pub Alike : Expression → Expression → Type 0
  Alike a b = Implies f classes m a b × Implies f classes m b a

  module _ (R : Expression → Expression → Type 0) (root : (a b : Expression) → R a b → Alike a b) where
    pub within : {a b : Expression} → Within R a b → Alike a b
    within (here w) = root _ _ w
    within (in_pos_pred w) = let (i, j) = within w in (same.pos_pred_same f classes m i, same.pos_pred_same f classes m j)
    within (in_neg_pred w) = let (i, j) = within w in (same.neg_pred_same f classes m i, same.neg_pred_same f classes m j)
    within (in_seq_left {c = c} w) = let (i, j) = within w in (same.seq_same f classes m i (same.itself f classes m c), same.seq_same f classes m j (same.itself f classes m c))
    within (in_seq_right {c = c} w) = let (i, j) = within w in (same.seq_same f classes m (same.itself f classes m c) i, same.seq_same f classes m (same.itself f classes m c) j)
    within (in_choice_left {c = c} w) = let (i, j) = within w in (same.choice_same f classes m i (same.itself f classes m c), same.choice_same f classes m j (same.itself f classes m c))
    within (in_choice_right {c = c} w) = let (i, j) = within w in (same.choice_same f classes m (same.itself f classes m c) i, same.choice_same f classes m (same.itself f classes m c) j)
    within (in_opt w) = let (i, j) = within w in (same.opt_same f classes m i, same.opt_same f classes m j)
    within (in_rep w) = let (i, j) = within w in (same.rep_same f classes m i, same.rep_same f classes m j)
    within (in_rep_once w) = let (i, j) = within w in (same.rep_once_same f classes m i, same.rep_once_same f classes m j)
    within (in_rep_exact {i = n} w) = let (i, j) = within w in (same.rep_exact_same f classes m n i, same.rep_exact_same f classes m n j)
    within (in_rep_min {i = n} w) = let (i, j) = within w in (same.rep_min_same f classes m n i, same.rep_min_same f classes m n j)
    within (in_rep_max {i = n} w) = let (i, j) = within w in (same.rep_max_same f classes m n i, same.rep_max_same f classes m n j)
    within (in_rep_min_max {i = l} {j = n} w) = let (i, j) = within w in (same.rep_min_max_same f classes m l n i, same.rep_min_max_same f classes m l n j)
    within (in_push w) = let (i, j) = within w in (same.push_same f classes m i, same.push_same f classes m j)
    within (in_tag {t = t} w) = let (i, j) = within w in (same.tag_same f classes m t i, same.tag_same f classes m t j)
    within (in_restore w) = let (i, j) = within w in (same.restore_same f classes m i, same.restore_same f classes m j)

    pub along : {a b : Expression} → Many R a b → Alike a b
    along {a} no_step = (same.itself f classes m a, same.itself f classes m a)
    along (one_step w ws) =
        let (i, j) = within w in
        let (k, l) = along ws in
        ((λ s o d. k s o (i s o d)), (λ s o d. j s o (l s o d)))
