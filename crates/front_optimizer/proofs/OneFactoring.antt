-- Each choice factored once, from the root down: one result at most.
use Rattle.std.proofs.Common.{◌≡◌, refl, sym, ◌∙◌, ap, subst}
use Rattle.base_language.specs.Language.Expression.{Expression, RuleType, Seq, Choice, PosPred, NegPred, Opt, Rep, RepOnce, RepExact, RepMin, RepMax, RepMinMax, Push, NodeTag}
use Rattle.front_optimizer.specs.Here.{factored_here}
use Rattle.front_optimizer.specs.Passes.{IsFactoring}
use Rattle.front_optimizer.specs.Traversals.{TopDown, met, Below}
use Rattle.front_optimizer.specs.Traversals as trav

module _ (R : Expression → Expression → Type 0) (one : (a b c : Expression) → R a b → R a c → b ≡ c) where
  mutual
    pub one_from_above : {a b c : Expression} → TopDown R a b → TopDown R a c → b ≡ c
    one_from_above (met r d) (met {b = c} s e) = one_below d (subst (λ m. Below R m c) (one _ _ _ s r) e)

    one_below : {a b c : Expression} → Below R a b → Below R a c → b ≡ c
    one_below (trav.Below.leaf h) (trav.Below.leaf k) = refl
    one_below (trav.Below.pos_pred d) (trav.Below.pos_pred e) = ap PosPred (one_from_above d e)
    one_below (trav.Below.pos_pred d) (trav.Below.leaf h) = absurd h
    one_below (trav.Below.leaf h) (trav.Below.pos_pred d) = absurd h
    one_below (trav.Below.neg_pred d) (trav.Below.neg_pred e) = ap NegPred (one_from_above d e)
    one_below (trav.Below.neg_pred d) (trav.Below.leaf h) = absurd h
    one_below (trav.Below.leaf h) (trav.Below.neg_pred d) = absurd h
    one_below (trav.Below.opt d) (trav.Below.opt e) = ap Opt (one_from_above d e)
    one_below (trav.Below.opt d) (trav.Below.leaf h) = absurd h
    one_below (trav.Below.leaf h) (trav.Below.opt d) = absurd h
    one_below (trav.Below.rep d) (trav.Below.rep e) = ap Rep (one_from_above d e)
    one_below (trav.Below.rep d) (trav.Below.leaf h) = absurd h
    one_below (trav.Below.leaf h) (trav.Below.rep d) = absurd h
    one_below (trav.Below.rep_once d) (trav.Below.rep_once e) = ap RepOnce (one_from_above d e)
    one_below (trav.Below.rep_once d) (trav.Below.leaf h) = absurd h
    one_below (trav.Below.leaf h) (trav.Below.rep_once d) = absurd h
    one_below (trav.Below.rep_exact {i = i} d) (trav.Below.rep_exact e) = ap (λ x. RepExact x i) (one_from_above d e)
    one_below (trav.Below.rep_exact d) (trav.Below.leaf h) = absurd h
    one_below (trav.Below.leaf h) (trav.Below.rep_exact d) = absurd h
    one_below (trav.Below.rep_min {i = i} d) (trav.Below.rep_min e) = ap (λ x. RepMin x i) (one_from_above d e)
    one_below (trav.Below.rep_min d) (trav.Below.leaf h) = absurd h
    one_below (trav.Below.leaf h) (trav.Below.rep_min d) = absurd h
    one_below (trav.Below.rep_max {i = i} d) (trav.Below.rep_max e) = ap (λ x. RepMax x i) (one_from_above d e)
    one_below (trav.Below.rep_max d) (trav.Below.leaf h) = absurd h
    one_below (trav.Below.leaf h) (trav.Below.rep_max d) = absurd h
    one_below (trav.Below.rep_min_max {i = i} {j = j} d) (trav.Below.rep_min_max e) = ap (λ x. RepMinMax x i j) (one_from_above d e)
    one_below (trav.Below.rep_min_max d) (trav.Below.leaf h) = absurd h
    one_below (trav.Below.leaf h) (trav.Below.rep_min_max d) = absurd h
    one_below (trav.Below.push d) (trav.Below.push e) = ap Push (one_from_above d e)
    one_below (trav.Below.push d) (trav.Below.leaf h) = absurd h
    one_below (trav.Below.leaf h) (trav.Below.push d) = absurd h
    one_below (trav.Below.tag {t = i} d) (trav.Below.tag e) = ap (λ x. NodeTag x i) (one_from_above d e)
    one_below (trav.Below.tag d) (trav.Below.leaf h) = absurd h
    one_below (trav.Below.leaf h) (trav.Below.tag d) = absurd h
    one_below (trav.Below.seq {b = b} {c = c} {d = d} l r) (trav.Below.seq {b = x} {d = y} m n) = ap (λ z. Seq z d) (one_from_above l m) ∙ ap (Seq x) (one_from_above r n)
    one_below (trav.Below.seq d e) (trav.Below.leaf h) = absurd h
    one_below (trav.Below.leaf h) (trav.Below.seq d e) = absurd h
    one_below (trav.Below.choice {b = b} {c = c} {d = d} l r) (trav.Below.choice {b = x} {d = y} m n) = ap (λ z. Choice z d) (one_from_above l m) ∙ ap (Choice x) (one_from_above r n)
    one_below (trav.Below.choice d e) (trav.Below.leaf h) = absurd h
    one_below (trav.Below.leaf h) (trav.Below.choice d e) = absurd h

pub one_factoring : (y : RuleType) (a b c : Expression) → IsFactoring y a b → IsFactoring y a c → b ≡ c
one_factoring y a b c i j = one_from_above (λ c d. factored_here y c ≡ d) (λ a b c p q. sym p ∙ q) i.each_once j.each_once
