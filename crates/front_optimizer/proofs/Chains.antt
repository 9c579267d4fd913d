-- What traversals do, as rewritings at places.
use Rattle.base_language.specs.Language.Expression.{Expression, PosPred, NegPred, Seq, Choice, Opt, Rep, RepOnce, RepExact, RepMin, RepMax, RepMinMax, Push, NodeTag}
use Rattle.base_language.specs.Rewritings.Rewriting.{Within, in_pos_pred, in_neg_pred, in_seq_left, in_seq_right, in_choice_left, in_choice_right, in_opt, in_rep, in_rep_once, in_rep_exact, in_rep_min, in_rep_max, in_rep_min_max, in_push, Many, no_step, in_tag}
use Rattle.base_language.proofs.RewritingAnywhere.{along, after}
use Rattle.front_optimizer.specs.Traversals.{TopDown, met, Below, BottomUp, left, Above}
use Rattle.front_optimizer.specs.Traversals as trav

-- what is done at a node is some steps J
module _ (J R : Expression → Expression → Type 0) (does : (a b : Expression) → R a b → Many J a b) where
  on_left : (f : Expression → Expression → Expression) → ((a b c : Expression) → Within J a b → Within J (f a c) (f b c)) → ((a b c : Expression) → Within J a b → Within J (f c a) (f c b))
      → {a b c d : Expression} → Many J a b → Many J c d → Many J (f a c) (f b d)
  on_left f i k {a} {b} {c} {d} m n = after J (along J (λ x. f x c) (λ x y w. i x y c w) m) (along J (f b) (λ x y w. k x y b w) n)

  mutual
    pub top_down_many : {a b : Expression} → TopDown R a b → Many J a b
    top_down_many (met r d) = after J (does _ _ r) (below_many d)

    pub below_many : {a b : Expression} → Below R a b → Many J a b
    below_many (trav.Below.leaf h) = no_step
    below_many (trav.Below.pos_pred d) = along J PosPred (λ x y w. in_pos_pred w) (top_down_many d)
    below_many (trav.Below.neg_pred d) = along J NegPred (λ x y w. in_neg_pred w) (top_down_many d)
    below_many (trav.Below.opt d) = along J Opt (λ x y w. in_opt w) (top_down_many d)
    below_many (trav.Below.rep d) = along J Rep (λ x y w. in_rep w) (top_down_many d)
    below_many (trav.Below.rep_once d) = along J RepOnce (λ x y w. in_rep_once w) (top_down_many d)
    below_many (trav.Below.rep_exact d) = along J (λ x. RepExact x _) (λ x y w. in_rep_exact w) (top_down_many d)
    below_many (trav.Below.rep_min d) = along J (λ x. RepMin x _) (λ x y w. in_rep_min w) (top_down_many d)
    below_many (trav.Below.rep_max d) = along J (λ x. RepMax x _) (λ x y w. in_rep_max w) (top_down_many d)
    below_many (trav.Below.rep_min_max d) = along J (λ x. RepMinMax x _ _) (λ x y w. in_rep_min_max w) (top_down_many d)
    below_many (trav.Below.push d) = along J Push (λ x y w. in_push w) (top_down_many d)
    below_many (trav.Below.tag d) = along J (λ x. NodeTag x _) (λ x y w. in_tag w) (top_down_many d)
    below_many (trav.Below.seq d e) = on_left Seq (λ x y z w. in_seq_left w) (λ x y z w. in_seq_right w) (top_down_many d) (top_down_many e)
    below_many (trav.Below.choice d e) = on_left Choice (λ x y z w. in_choice_left w) (λ x y z w. in_choice_right w) (top_down_many d) (top_down_many e)

  mutual
    pub bottom_up_many : {a b : Expression} → BottomUp R a b → Many J a b
    bottom_up_many (left d r) = after J (above_many d) (does _ _ r)

    pub above_many : {a b : Expression} → Above R a b → Many J a b
    above_many (trav.Above.leaf h) = no_step
    above_many (trav.Above.pos_pred d) = along J PosPred (λ x y w. in_pos_pred w) (bottom_up_many d)
    above_many (trav.Above.neg_pred d) = along J NegPred (λ x y w. in_neg_pred w) (bottom_up_many d)
    above_many (trav.Above.opt d) = along J Opt (λ x y w. in_opt w) (bottom_up_many d)
    above_many (trav.Above.rep d) = along J Rep (λ x y w. in_rep w) (bottom_up_many d)
    above_many (trav.Above.rep_once d) = along J RepOnce (λ x y w. in_rep_once w) (bottom_up_many d)
    above_many (trav.Above.rep_exact d) = along J (λ x. RepExact x _) (λ x y w. in_rep_exact w) (bottom_up_many d)
    above_many (trav.Above.rep_min d) = along J (λ x. RepMin x _) (λ x y w. in_rep_min w) (bottom_up_many d)
    above_many (trav.Above.rep_max d) = along J (λ x. RepMax x _) (λ x y w. in_rep_max w) (bottom_up_many d)
    above_many (trav.Above.rep_min_max d) = along J (λ x. RepMinMax x _ _) (λ x y w. in_rep_min_max w) (bottom_up_many d)
    above_many (trav.Above.push d) = along J Push (λ x y w. in_push w) (bottom_up_many d)
    above_many (trav.Above.tag d) = along J (λ x. NodeTag x _) (λ x y w. in_tag w) (bottom_up_many d)
    above_many (trav.Above.seq d e) = on_left Seq (λ x y z w. in_seq_left w) (λ x y z w. in_seq_right w) (bottom_up_many d) (bottom_up_many e)
    above_many (trav.Above.choice d e) = on_left Choice (λ x y z w. in_choice_left w) (λ x y z w. in_choice_right w) (bottom_up_many d) (bottom_up_many e)
