-- Maps of closures that change nothing.
use Rattle.std.proofs.Common.{◌≡◌, List, ◌∷◌, ap, ◌∙◌, sym, refl, Result, Ok, Err, IfOk}
use Rattle.base_language.specs.Language.Expression.{Expression}
use Rattle.base_language.specs.declared.runtime.faults.Fault.{Fault}
use Rattle.base_ast.specs.Operands.{over}
use Rattle.base_ast.specs.Maps.{Progress, Becomes, answered, refused, stayed, TopDown, EachTopDown, BottomUp, EachBottomUp, met, none_met, next_met, left, none_left, next_left, MapsTopDown, MapsBottomUp}
use Rattle.base_ast.proofs.Frames.{over-operands}

cons-ap : {A : Type 0} {a b : A} {xs ys : List A} → b ≡ a → ys ≡ xs → b ∷ ys ≡ a ∷ xs
cons-ap {b = b} {xs = xs} p q = ap (λ zs. b ∷ zs) q ∙ ap (λ z. z ∷ xs) p

module _ {F E : Type 0} (says : E → Expression) (step : F → E → Result E Fault → F → Type 0)
    (same : (f : F) (x y : E) (g : F) → step f x (Ok y) g → says y ≡ says x) where
  becomes_same : {s t : Progress F} {a b : Expression} → Becomes says step s a b t → b ≡ a
  becomes_same (answered c) = sym c.answer_says ∙ (same _ _ _ _ c.called ∙ c.node_says)
  becomes_same (refused c) = refl
  becomes_same stayed = refl

  mutual
    top_down_same : {s t : Progress F} {a b : Expression} → TopDown says step s a b t → b ≡ a
    top_down_same (met {m = m} c d) = ap (over m) (each_top_down_same d) ∙ (over-operands m ∙ becomes_same c)

    each_top_down_same : {s t : Progress F} {xs ys : List Expression} → EachTopDown says step s xs ys t → ys ≡ xs
    each_top_down_same none_met = refl
    each_top_down_same (next_met c d) = cons-ap (top_down_same c) (each_top_down_same d)

  mutual
    bottom_up_same : {s t : Progress F} {a b : Expression} → BottomUp says step s a b t → b ≡ a
    bottom_up_same (left {a = a} d c) = becomes_same c ∙ (ap (over a) (each_bottom_up_same d) ∙ over-operands a)

    each_bottom_up_same : {s t : Progress F} {xs ys : List Expression} → EachBottomUp says step s xs ys t → ys ≡ xs
    each_bottom_up_same none_left = refl
    each_bottom_up_same (next_left c d) = cons-ap (bottom_up_same c) (each_bottom_up_same d)

  pub unchanged_top_down : (f : F) (x : E) (r : Result E Fault) → IfOk r (MapsTopDown says step f x) → IfOk r (λ y. says y ≡ says x)
  unchanged_top_down f x (Ok y) h = top_down_same h.1
  unchanged_top_down f x (Err fault) h = h

  pub unchanged_bottom_up : (f : F) (x : E) (r : Result E Fault) → IfOk r (MapsBottomUp says step f x) → IfOk r (λ y. says y ≡ says x)
  unchanged_bottom_up f x (Ok y) h = bottom_up_same h.1
  unchanged_bottom_up f x (Err fault) h = h
