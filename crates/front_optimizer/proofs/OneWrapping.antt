-- Wrappers stand in one way at most.
use Rattle.std.proofs.Common.{◌≡◌, refl, ◌∙◌, ap, subst}
use Rattle.base_language.specs.Language.Expression.{Expression, Grammar, PosPred, NegPred, Seq, Choice, Opt, Rep, RepOnce, Push, NodeTag}
use Rattle.base_language.specs.Rewritings.Wrapping.{Wraps, wraps, leaves, RestoresTo, restores_str, restores_insens, restores_range, restores_name, restores_slice, restores_skip, restores_push_literal, restores_pos_pred, restores_neg_pred, restores_push, restores_tag, restores_seq, restores_choice, restores_opt, restores_rep, restores_rep_once}

module _ (g : Grammar) where
  one_wrapper : {e b c : Expression} → Wraps g e b → Wraps g e c → b ≡ c
  one_wrapper (wraps h) (wraps k) = refl
  one_wrapper (wraps h) (leaves n) = absurd (n h)
  one_wrapper (leaves n) (wraps h) = absurd (n h)
  one_wrapper (leaves n) (leaves k) = refl

  both : {d e b c : Expression} → d ≡ e → Wraps g d b → Wraps g e c → b ≡ c
  both {b = b} q v w = one_wrapper (subst (λ x. Wraps g x b) q v) w

  two : (f : Expression → Expression → Expression) {a b c d : Expression} → a ≡ b → c ≡ d → f a c ≡ f b d
  two f {b = b} {c = c} p q = ap (λ x. f x c) p ∙ ap (f b) q

  restored_once : {a b c : Expression} → RestoresTo g a b → RestoresTo g a c → b ≡ c
  restored_once restores_str restores_str = refl
  restored_once restores_insens restores_insens = refl
  restored_once restores_range restores_range = refl
  restored_once restores_name restores_name = refl
  restored_once restores_slice restores_slice = refl
  restored_once restores_skip restores_skip = refl
  restored_once restores_push_literal restores_push_literal = refl
  restored_once (restores_pos_pred d) (restores_pos_pred e) = ap PosPred (restored_once d e)
  restored_once (restores_neg_pred d) (restores_neg_pred e) = ap NegPred (restored_once d e)
  restored_once (restores_push d) (restores_push e) = ap Push (restored_once d e)
  restored_once (restores_tag {t = t} d) (restores_tag e) = ap (λ x. NodeTag x t) (restored_once d e)
  restored_once (restores_seq d e) (restores_seq i j) = two Seq (restored_once d i) (restored_once e j)
  restored_once (restores_choice d v e w) (restores_choice i x j y) = two Choice (both (restored_once d i) v x) (both (restored_once e j) w y)
  restored_once (restores_opt d v) (restores_opt e w) = ap Opt (both (restored_once d e) v w)
  restored_once (restores_rep d v) (restores_rep e w) = ap Rep (both (restored_once d e) v w)
  restored_once (restores_rep_once d v) (restores_rep_once e w) = ap RepOnce (both (restored_once d e) v w)

  pub one_wrapping : (a b c : Expression) → RestoresTo g a b → RestoresTo g a c → b ≡ c
  one_wrapping a b c = restored_once
