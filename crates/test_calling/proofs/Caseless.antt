-- A map whose closure makes each literal caseless makes the whole so.
use Rattle.std.proofs.Common.{◌≡◌, List, [], ◌∷◌, map, refl, sym, ap, ◌∙◌, Result, Ok, Err, IfOk}
use Rattle.base_language.specs.Language.Expression.{Expression, Str, Insens}
use Rattle.base_language.specs.declared.runtime.faults.Fault.{Fault}
use Rattle.base_ast.specs.Ast.{expression_of}
use Rattle.base_ast.specs.Maps.{Becomes, answered, TopDown, EachTopDown, met, none_met, next_met, MapsTopDown}
use Rattle.base_ast.specs.Maps as maps
use Rattle.base_ast.specs.Operands.{operands, over}
use Rattle.base_ast.specs.declared.ast.Expr.{Expr}
use Rattle.test_calling.specs.Caseless.{caseless}

-- what is done at one node
abbrev pub caseless_literal : Expression → Expression
caseless_literal (Str s) = Insens s
caseless_literal e = e

over_caseless : (a : Expression) → over (caseless_literal a) (map caseless (operands (caseless_literal a))) ≡ caseless a
over_caseless (Str s) = refl
over_caseless _ = refl

cons_ap : {a b : Expression} {xs ys : List Expression} → a ≡ b → xs ≡ ys → a ∷ xs ≡ b ∷ ys
cons_ap {b = b} {xs = xs} p q = ap (λ z. z ∷ xs) p ∙ ap (λ zs. b ∷ zs) q

module _ {F : Type 0} (step : F → Expr → Result Expr Fault → F → Type 0)
    (each : (f : F) (x y : Expr) (g : F) → step f x (Ok y) g → expression_of y ≡ caseless_literal (expression_of x)) where
  -- from a fault no call leads on
  mutual
    stuck : {fault : Fault} {f : F} {a b : Expression} → TopDown expression_of step (Err fault) a b (Ok f) → ⊥
    stuck (met maps.stayed d) = each_stuck d

    each_stuck : {fault : Fault} {f : F} {xs ys : List Expression} → EachTopDown expression_of step (Err fault) xs ys (Ok f) → ⊥
    each_stuck (next_met {t = Ok g} c d) = stuck c
    each_stuck (next_met {t = Err fault} c d) = each_stuck d

  becomes_caseless : {f g : F} {a m : Expression} → Becomes expression_of step (Ok f) a m (Ok g) → m ≡ caseless_literal a
  becomes_caseless (answered c) = sym c.answer_says ∙ (each _ _ _ _ c.called ∙ ap caseless_literal c.node_says)

  mutual
    down : {f l : F} {a b : Expression} → TopDown expression_of step (Ok f) a b (Ok l) → b ≡ caseless a
    down {a = a} (met {t = Ok g} {m = m} {xs = xs} c d) =
        ap (over m) (each_down d) ∙ (ap (λ z. over z (map caseless (operands z))) (becomes_caseless c) ∙ over_caseless a)
    down (met {t = Err fault} c d) = absurd (each_stuck d)

    each_down : {f l : F} {xs ys : List Expression} → EachTopDown expression_of step (Ok f) xs ys (Ok l) → ys ≡ map caseless xs
    each_down none_met = refl
    each_down (next_met {t = Ok g} c d) = cons_ap (down c) (each_down d)
    each_down (next_met {t = Err fault} c d) = absurd (each_stuck d)

  pub caseless_top_down : (f : F) (x : Expr) (r : Result Expr Fault) → IfOk r (MapsTopDown expression_of step f x)
      → IfOk r (λ y. expression_of y ≡ caseless (expression_of x))
  caseless_top_down f x (Ok y) h = down h.1
  caseless_top_down f x (Err fault) h = h
