-- Walks that keep what is to be met on a stack: an expression on its top comes first, and gives way to its operands.
use Rattle.std.proofs.Common.{◌≡◌, ◌<◌, List, [], ◌∷◌, ◌++◌, length, refl, sym, ap, append_assoc, append-nil, arith}
use Rattle.base_language.specs.Language.Expression.{Expression}
use Rattle.base_language.specs.Language.Expression as e
use Rattle.base_ast.specs.Operands.{operands, preorder}
use Rattle.base_ast.specs.Frames.{Unary, PosPred, NegPred, Opt, Rep, RepOnce, RepExact, RepMin, RepMax, RepMinMax, Push, NodeTag, around, joined}
use Rattle.base_ast.specs.TopDownIterators.{waiting}
use Rattle.base_ast.specs.declared.shape.Joint.{Joint}
use Rattle.base_ast.specs.declared.shape.Joint.TheVariants as joint

preorder-around : (u : Unary) (x : Expression) → preorder (around u x) ≡ around u x ∷ preorder x
preorder-around PosPred x = refl
preorder-around NegPred x = refl
preorder-around Opt x = refl
preorder-around Rep x = refl
preorder-around RepOnce x = refl
preorder-around (RepExact i) x = refl
preorder-around (RepMin i) x = refl
preorder-around (RepMax i) x = refl
preorder-around (RepMinMax i j) x = refl
preorder-around Push x = refl
preorder-around (NodeTag t) x = refl

preorder-joined : (j : Joint) (x y : Expression) → preorder (joined j x y) ≡ joined j x y ∷ (preorder x ++ preorder y)
preorder-joined joint.Sequence x y = refl
preorder-joined joint.Choice x y = refl

preorder-leaf : (x : Expression) → operands x ≡ [] → preorder x ≡ x ∷ []
preorder-leaf (e.Str s) h = refl
preorder-leaf (e.Insens s) h = refl
preorder-leaf (e.Range s t) h = refl
preorder-leaf (e.Ident s) h = refl
preorder-leaf (e.PeekSlice i j) h = refl
preorder-leaf (e.PosPred x) h = cc
preorder-leaf (e.NegPred x) h = cc
preorder-leaf (e.Seq x y) h = cc
preorder-leaf (e.Choice x y) h = cc
preorder-leaf (e.Opt x) h = cc
preorder-leaf (e.Rep x) h = cc
preorder-leaf (e.RepOnce x) h = cc
preorder-leaf (e.RepExact x i) h = cc
preorder-leaf (e.RepMin x i) h = cc
preorder-leaf (e.RepMax x i) h = cc
preorder-leaf (e.RepMinMax x i j) h = cc
preorder-leaf (e.Skip ss) h = refl
preorder-leaf (e.PushLiteral s) h = refl
preorder-leaf (e.Push x) h = cc
preorder-leaf (e.NodeTag x s) h = cc
preorder-leaf (e.RestoreOnErr x) h = refl

-- an expression is met itself
preorder-some : (x : Expression) → 0 < length (preorder x)
preorder-some (e.Str s) = omega arith
preorder-some (e.Insens s) = omega arith
preorder-some (e.Range s t) = omega arith
preorder-some (e.Ident s) = omega arith
preorder-some (e.PeekSlice i j) = omega arith
preorder-some (e.PosPred x) = omega arith
preorder-some (e.NegPred x) = omega arith
preorder-some (e.Seq x y) = omega arith
preorder-some (e.Choice x y) = omega arith
preorder-some (e.Opt x) = omega arith
preorder-some (e.Rep x) = omega arith
preorder-some (e.RepOnce x) = omega arith
preorder-some (e.RepExact x i) = omega arith
preorder-some (e.RepMin x i) = omega arith
preorder-some (e.RepMax x i) = omega arith
preorder-some (e.RepMinMax x i j) = omega arith
preorder-some (e.Skip ss) = omega arith
preorder-some (e.PushLiteral s) = omega arith
preorder-some (e.Push x) = omega arith
preorder-some (e.NodeTag x s) = omega arith
preorder-some (e.RestoreOnErr x) = omega arith

some_before : (xs ys : List Expression) → 0 < length xs → 0 < length (xs ++ ys)
some_before [] ys h = absurd (omega arith)
some_before (x ∷ xs) ys h = omega arith

module _ {E : Type 0} (says : E → Expression) where
  waiting-last : (xs : List E) (x : E) → waiting says (xs ++ (x ∷ [])) ≡ preorder (says x) ++ waiting says xs
  waiting-last [] x = sym (append-nil (preorder (says x)))
  waiting-last (y ∷ xs) x = rw (waiting-last xs x) (append_assoc (preorder (says x)) (waiting says xs) (preorder (says y)))

  pub some_waits : (ss ps : List E) (x : E) → ss ≡ ps ++ (x ∷ []) → 0 < length (waiting says ss)
  some_waits ss ps x p = rw (p, waiting-last ps x) (some_before (preorder (says x)) (waiting says ps) (preorder-some (says x)))

  pub leaf_first : (ss ps : List E) (x k : E) → ss ≡ ps ++ (x ∷ []) → says k ≡ says x → operands (says x) ≡ [] → waiting says ss ≡ says k ∷ waiting says ps
  leaf_first ss ps x k p q h = rw (p, waiting-last ps x, preorder-leaf (says x) h, q) refl

  pub one_first : (ss ps qs : List E) (u : Unary) (x k y : E) → ss ≡ ps ++ (x ∷ []) → says k ≡ says x → says x ≡ around u (says y) → qs ≡ ps ++ (y ∷ []) → waiting says ss ≡ says k ∷ waiting says qs
  one_first ss ps qs u x k y p q h r = rw (p, waiting-last ps x, q, h, preorder-around u (says y), r, waiting-last ps y) refl

  pub two_first : (ss ps ms qs : List E) (j : Joint) (x k y z : E) → ss ≡ ps ++ (x ∷ []) → says k ≡ says x → says x ≡ joined j (says y) (says z) → ms ≡ ps ++ (z ∷ []) → qs ≡ ms ++ (y ∷ []) → waiting says ss ≡ says k ∷ waiting says qs
  two_first ss ps ms qs j x k y z p q h r s =
      rw (p, waiting-last ps x, q, h, preorder-joined j (says y) (says z), s, waiting-last ms y, r, waiting-last ps z) (ap (λ w. joined j (says y) (says z) ∷ w) (append_assoc (preorder (says y)) (preorder (says z)) (waiting says ps)))
