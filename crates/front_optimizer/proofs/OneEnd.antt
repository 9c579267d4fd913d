-- Steps that stand apart lead to one end at most.
use Rattle.std.proofs.Common.{◌≡◌, refl, sym, subst}
use Rattle.base_language.specs.Language.Expression.{Expression, Seq, Choice, PosPred, NegPred, Opt, Rep, RepOnce, RepExact, RepMin, RepMax, RepMinMax, Push, NodeTag, RestoreOnErr, whole, of_pos_pred, of_neg_pred, of_opt, of_rep, of_rep_once, of_rep_exact, of_rep_min, of_rep_max, of_rep_min_max, of_push, of_tag, of_restore, of_seq_left, of_seq_right, of_choice_left, of_choice_right}
use Rattle.base_language.specs.Rewritings.Rewriting.{Within, here, in_pos_pred, in_neg_pred, in_opt, in_rep, in_rep_once, in_rep_exact, in_rep_min, in_rep_max, in_rep_min_max, in_push, in_tag, in_restore, in_seq_left, in_seq_right, in_choice_left, in_choice_right, Many, no_step, one_step, Nowhere, IsDone}

module _ (R : Expression → Expression → Type 0) where
  -- where nothing is to do there is no step
  pub none_left : {a b : Expression} → Nowhere R a → Within R a b → ⊥
  none_left n (here r) = n _ _ whole r
  none_left n (in_pos_pred w) = none_left (λ p q k r. n p q (of_pos_pred k) r) w
  none_left n (in_neg_pred w) = none_left (λ p q k r. n p q (of_neg_pred k) r) w
  none_left n (in_opt w) = none_left (λ p q k r. n p q (of_opt k) r) w
  none_left n (in_rep w) = none_left (λ p q k r. n p q (of_rep k) r) w
  none_left n (in_rep_once w) = none_left (λ p q k r. n p q (of_rep_once k) r) w
  none_left n (in_rep_exact w) = none_left (λ p q k r. n p q (of_rep_exact k) r) w
  none_left n (in_rep_min w) = none_left (λ p q k r. n p q (of_rep_min k) r) w
  none_left n (in_rep_max w) = none_left (λ p q k r. n p q (of_rep_max k) r) w
  none_left n (in_rep_min_max w) = none_left (λ p q k r. n p q (of_rep_min_max k) r) w
  none_left n (in_push w) = none_left (λ p q k r. n p q (of_push k) r) w
  none_left n (in_tag w) = none_left (λ p q k r. n p q (of_tag k) r) w
  none_left n (in_restore w) = none_left (λ p q k r. n p q (of_restore k) r) w
  none_left n (in_seq_left w) = none_left (λ p q k r. n p q (of_seq_left k) r) w
  none_left n (in_seq_right w) = none_left (λ p q k r. n p q (of_seq_right k) r) w
  none_left n (in_choice_left w) = none_left (λ p q k r. n p q (of_choice_left k) r) w
  none_left n (in_choice_right w) = none_left (λ p q k r. n p q (of_choice_right k) r) w

  pub stays : {a b : Expression} → Nowhere R a → Many R a b → a ≡ b
  stays n no_step = refl
  stays n (one_step w m) = absurd (none_left n w)

-- where the step applies, no other does at that place or below it
module _ (R : Expression → Expression → Type 0) (alone : (a b c : Expression) → R a b → Within R a c → b ≡ c) where
  -- two expressions are equal, or a step from each leads to one
  data Meet : Expression → Expression → Type 0 where
    equal : {a : Expression} → Meet a a
    common : {a b c : Expression} → Within R a c → Within R b c → Meet a b

  at_once : {a b : Expression} → a ≡ b → Meet a b
  at_once {a} e = subst (λ x. Meet a x) e equal

  under : (f : Expression → Expression) → ((a b : Expression) → Within R a b → Within R (f a) (f b)) → {a b : Expression} → Meet a b → Meet (f a) (f b)
  under f i equal = equal
  under f i (common v w) = common (i _ _ v) (i _ _ w)

  meet : {a b c : Expression} → Within R a b → Within R a c → Meet b c
  meet (here r) w = at_once (alone _ _ _ r w)
  meet v (here r) = at_once (sym (alone _ _ _ r v))
  meet (in_pos_pred v) (in_pos_pred w) = under PosPred (λ x y u. in_pos_pred u) (meet v w)
  meet (in_neg_pred v) (in_neg_pred w) = under NegPred (λ x y u. in_neg_pred u) (meet v w)
  meet (in_opt v) (in_opt w) = under Opt (λ x y u. in_opt u) (meet v w)
  meet (in_rep v) (in_rep w) = under Rep (λ x y u. in_rep u) (meet v w)
  meet (in_rep_once v) (in_rep_once w) = under RepOnce (λ x y u. in_rep_once u) (meet v w)
  meet (in_rep_exact {i = i} v) (in_rep_exact w) = under (λ x. RepExact x i) (λ x y u. in_rep_exact u) (meet v w)
  meet (in_rep_min {i = i} v) (in_rep_min w) = under (λ x. RepMin x i) (λ x y u. in_rep_min u) (meet v w)
  meet (in_rep_max {i = i} v) (in_rep_max w) = under (λ x. RepMax x i) (λ x y u. in_rep_max u) (meet v w)
  meet (in_rep_min_max {i = i} {j = j} v) (in_rep_min_max w) = under (λ x. RepMinMax x i j) (λ x y u. in_rep_min_max u) (meet v w)
  meet (in_push v) (in_push w) = under Push (λ x y u. in_push u) (meet v w)
  meet (in_tag {t = i} v) (in_tag w) = under (λ x. NodeTag x i) (λ x y u. in_tag u) (meet v w)
  meet (in_restore v) (in_restore w) = under RestoreOnErr (λ x y u. in_restore u) (meet v w)
  meet (in_seq_left {c = c} v) (in_seq_left w) = under (λ x. Seq x c) (λ x y u. in_seq_left u) (meet v w)
  meet (in_seq_right {c = c} v) (in_seq_right w) = under (λ x. Seq c x) (λ x y u. in_seq_right u) (meet v w)
  meet (in_seq_left v) (in_seq_right w) = common (in_seq_right w) (in_seq_left v)
  meet (in_seq_right v) (in_seq_left w) = common (in_seq_left w) (in_seq_right v)
  meet (in_choice_left {c = c} v) (in_choice_left w) = under (λ x. Choice x c) (λ x y u. in_choice_left u) (meet v w)
  meet (in_choice_right {c = c} v) (in_choice_right w) = under (λ x. Choice c x) (λ x y u. in_choice_right u) (meet v w)
  meet (in_choice_left v) (in_choice_right w) = common (in_choice_right w) (in_choice_left v)
  meet (in_choice_right v) (in_choice_left w) = common (in_choice_left w) (in_choice_right v)

  from_meeting : {x b c : Expression} → Many R x b → ((d : Expression) → Within R x d → Many R d b) → Meet x c → Many R c b
  from_meeting m after equal = m
  from_meeting m after (common v w) = one_step w (after _ v)

  rest : {a b c : Expression} → Many R a b → Nowhere R b → Within R a c → Many R c b
  rest no_step n w = absurd (none_left R n w)
  rest (one_step v m) n w = from_meeting m (λ d u. rest m n u) (meet v w)

  ends : {a b c : Expression} → Many R a b → Many R a c → Nowhere R b → Nowhere R c → b ≡ c
  ends m no_step n k = sym (stays R k m)
  ends m (one_step w l) n k = ends (rest m n w) l n k

  pub one_end : {a b c : Expression} → IsDone R a b → IsDone R a c → b ≡ c
  one_end i j = ends i.reached j.reached i.nowhere j.nowhere
