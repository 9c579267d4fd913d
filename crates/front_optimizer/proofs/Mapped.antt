-- What a map makes of an expression, where the calls of its closure do all the same at a node.
use Rattle.std.proofs.Common.{◌≡◌, refl, sym, subst, List, [], ◌∷◌, Result, Ok, Err, IfOk}
use Rattle.std.specs.Prelude.{⊤}
use Rattle.std.specs.declared.alloc.AllocError.{AllocError}
use Rattle.base_language.specs.Language.Expression.{Expression}
use Rattle.base_language.specs.declared.runtime.faults.Fault.{Fault}
use Rattle.base_ast.specs.Ast.{expression_of}
use Rattle.base_ast.specs.Maps as maps
use Rattle.base_ast.specs.Maps.{Becomes, answered, stayed, EachTopDown, EachBottomUp, none_met, next_met, none_left, next_left}
use Rattle.base_ast.specs.Operands.{operands, over}
use Rattle.base_ast.specs.declared.ast.Expr.{Expr, Str, Insens, Range, Ident, PeekSlice, PosPred', NegPred', Seq', Choice', Opt', Rep', RepOnce', RepExact', RepMin', RepMax', RepMinMax', Skip, Push', PushLiteral, NodeTag'}
use Rattle.front_optimizer.specs.Traversals as trav
use Rattle.front_optimizer.specs.Traversals.{TopDown, Below, BottomUp, Above}

-- an expression that code has
abbrev IsCode : Expression → Type 0
IsCode a = (x : Expr) × (expression_of x ≡ a)

abbrev AreCode : List Expression → Type 0
AreCode [] = ⊤
AreCode (a ∷ others) = IsCode a × AreCode others

operands_of_code : (x : Expr) → AreCode (operands (expression_of x))
operands_of_code (Str s) = tt
operands_of_code (Insens s) = tt
operands_of_code (Range s t) = tt
operands_of_code (Ident s) = tt
operands_of_code (PeekSlice i j) = tt
operands_of_code (Skip ss) = tt
operands_of_code (PushLiteral u) = tt
operands_of_code (PosPred' p y) = ((y, refl), tt)
operands_of_code (NegPred' p y) = ((y, refl), tt)
operands_of_code (Seq' p y q z) = ((y, refl), ((z, refl), tt))
operands_of_code (Choice' p y q z) = ((y, refl), ((z, refl), tt))
operands_of_code (Opt' p y) = ((y, refl), tt)
operands_of_code (Rep' p y) = ((y, refl), tt)
operands_of_code (RepOnce' p y) = ((y, refl), tt)
operands_of_code (RepExact' p y i) = ((y, refl), tt)
operands_of_code (RepMin' p y i) = ((y, refl), tt)
operands_of_code (RepMax' p y i) = ((y, refl), tt)
operands_of_code (RepMinMax' p y i j) = ((y, refl), tt)
operands_of_code (Push' p y) = ((y, refl), tt)
operands_of_code (NodeTag' p y u) = ((y, refl), tt)

-- the same at each of some expressions
module _ (D : Expression → Expression → Type 0) where
  data Each : List Expression → List Expression → Type 0 where
    none : Each [] []
    next : {a b : Expression} {xs ys : List Expression} → D a b → Each xs ys → Each (a ∷ xs) (b ∷ ys)

module _ (R : Expression → Expression → Type 0) where
  below : (x : Expr) (xs : List Expression) → Each (TopDown R) (operands (expression_of x)) xs → Below R (expression_of x) (over (expression_of x) xs)
  below (Str s) _ none = trav.Below.leaf tt
  below (Insens s) _ none = trav.Below.leaf tt
  below (Range s t) _ none = trav.Below.leaf tt
  below (Ident s) _ none = trav.Below.leaf tt
  below (PeekSlice i j) _ none = trav.Below.leaf tt
  below (Skip ss) _ none = trav.Below.leaf tt
  below (PushLiteral u) _ none = trav.Below.leaf tt
  below (PosPred' p y) _ (next d none) = trav.Below.pos_pred d
  below (NegPred' p y) _ (next d none) = trav.Below.neg_pred d
  below (Seq' p y q z) _ (next d (next e none)) = trav.Below.seq d e
  below (Choice' p y q z) _ (next d (next e none)) = trav.Below.choice d e
  below (Opt' p y) _ (next d none) = trav.Below.opt d
  below (Rep' p y) _ (next d none) = trav.Below.rep d
  below (RepOnce' p y) _ (next d none) = trav.Below.rep_once d
  below (RepExact' p y i) _ (next d none) = trav.Below.rep_exact d
  below (RepMin' p y i) _ (next d none) = trav.Below.rep_min d
  below (RepMax' p y i) _ (next d none) = trav.Below.rep_max d
  below (RepMinMax' p y i j) _ (next d none) = trav.Below.rep_min_max d
  below (Push' p y) _ (next d none) = trav.Below.push d
  below (NodeTag' p y u) _ (next d none) = trav.Below.tag d

  above : (x : Expr) (xs : List Expression) → Each (BottomUp R) (operands (expression_of x)) xs → Above R (expression_of x) (over (expression_of x) xs)
  above (Str s) _ none = trav.Above.leaf tt
  above (Insens s) _ none = trav.Above.leaf tt
  above (Range s t) _ none = trav.Above.leaf tt
  above (Ident s) _ none = trav.Above.leaf tt
  above (PeekSlice i j) _ none = trav.Above.leaf tt
  above (Skip ss) _ none = trav.Above.leaf tt
  above (PushLiteral u) _ none = trav.Above.leaf tt
  above (PosPred' p y) _ (next d none) = trav.Above.pos_pred d
  above (NegPred' p y) _ (next d none) = trav.Above.neg_pred d
  above (Seq' p y q z) _ (next d (next e none)) = trav.Above.seq d e
  above (Choice' p y q z) _ (next d (next e none)) = trav.Above.choice d e
  above (Opt' p y) _ (next d none) = trav.Above.opt d
  above (Rep' p y) _ (next d none) = trav.Above.rep d
  above (RepOnce' p y) _ (next d none) = trav.Above.rep_once d
  above (RepExact' p y i) _ (next d none) = trav.Above.rep_exact d
  above (RepMin' p y i) _ (next d none) = trav.Above.rep_min d
  above (RepMax' p y i) _ (next d none) = trav.Above.rep_max d
  above (RepMinMax' p y i j) _ (next d none) = trav.Above.rep_min_max d
  above (Push' p y) _ (next d none) = trav.Above.push d
  above (NodeTag' p y u) _ (next d none) = trav.Above.tag d

  -- `step f x r g`: a call of `f` at x answers r and leaves `g`; `Keeps f`: what is known of `f`
  module _ {F : Type 0} (step : F → Expr → Result Expr Fault → F → Type 0) (Keeps : F → Type 0)
      (each : (f : F) (x y : Expr) (g : F) → Keeps f → step f x (Ok y) g → R (expression_of x) (expression_of y) × Keeps g) where
    -- from a fault no call leads on
    stuck : {fault : Fault} {f : F} {a b : Expression} → Becomes expression_of step (Err fault) a b (Ok f) → ⊥
    stuck c = elim c [ ]

    mutual
      stuck_down : {fault : Fault} {f : F} {a b : Expression} → maps.TopDown expression_of step (Err fault) a b (Ok f) → ⊥
      stuck_down (maps.met stayed d) = each_stuck_down d

      each_stuck_down : {fault : Fault} {f : F} {xs ys : List Expression} → EachTopDown expression_of step (Err fault) xs ys (Ok f) → ⊥
      each_stuck_down (next_met {t = Ok g} c d) = stuck_down c
      each_stuck_down (next_met {t = Err fault} c d) = each_stuck_down d

    mutual
      stuck_up : {fault : Fault} {f : F} {a b : Expression} → maps.BottomUp expression_of step (Err fault) a b (Ok f) → ⊥
      stuck_up (maps.left {t = Ok g} d c) = each_stuck_up d
      stuck_up (maps.left {t = Err fault} d c) = stuck c

      each_stuck_up : {fault : Fault} {f : F} {xs ys : List Expression} → EachBottomUp expression_of step (Err fault) xs ys (Ok f) → ⊥
      each_stuck_up (next_left {t = Ok g} c d) = stuck_up c
      each_stuck_up (next_left {t = Err fault} c d) = each_stuck_up d

    -- one call
    record IsMet (a m : Expression) (g : F) : Type 0 where
      answer : IsCode m
      gives : R a m
      keeps : Keeps g

    one_met : {f g : F} {a m : Expression} → Keeps f → Becomes expression_of step (Ok f) a m (Ok g) → IsMet a m g
    one_met {m = m} k (answered c) =
        let h = each _ _ _ _ k c.called in
        record { answer = (c.answer, c.answer_says); gives = subst (λ z. R z m) c.node_says (subst (R (expression_of c.node)) c.answer_says h.0); keeps = h.1 }

    mutual
      down : {f l : F} {a b : Expression} → Keeps f → maps.TopDown expression_of step (Ok f) a b (Ok l) → TopDown R a b × Keeps l
      down {a = a} k (maps.met {t = Ok g} {m = m} {xs = xs} c d) =
          let one = one_met k c in
          let all = each_down one.keeps d in
          let x = one.answer.0 in
          let is_m : expression_of x ≡ m = one.answer.1 in
          let under : Below R m (over m xs) = subst (λ z. Below R z (over z xs)) is_m (below x xs (subst (λ z. Each (TopDown R) (operands z) xs) (sym is_m) all.0)) in
          (trav.met one.gives under, all.1)
      down k (maps.met {t = Err fault} c d) = absurd (each_stuck_down d)

      each_down : {f l : F} {xs ys : List Expression} → Keeps f → EachTopDown expression_of step (Ok f) xs ys (Ok l) → Each (TopDown R) xs ys × Keeps l
      each_down k none_met = (none, k)
      each_down k (next_met {t = Ok g} c d) = let first = down k c in let others = each_down first.1 d in (next first.0 others.0, others.1)
      each_down k (next_met {t = Err fault} c d) = absurd (each_stuck_down d)

    mutual
      up : {f l : F} {a b : Expression} → IsCode a → Keeps f → maps.BottomUp expression_of step (Ok f) a b (Ok l) → BottomUp R a b × Keeps l
      up (x, is_a) k (maps.left {t = Ok g} {a = a} {xs = xs} d c) =
          let all = each_up (subst (λ z. AreCode (operands z)) is_a (operands_of_code x)) k d in
          let one = one_met all.1 c in
          let under : Above R a (over a xs) = subst (λ z. Above R z (over z xs)) is_a (above x xs (subst (λ z. Each (BottomUp R) (operands z) xs) (sym is_a) all.0)) in
          (trav.left under one.gives, one.keeps)
      up h k (maps.left {t = Err fault} d c) = absurd (stuck c)

      each_up : {f l : F} {xs ys : List Expression} → AreCode xs → Keeps f → EachBottomUp expression_of step (Ok f) xs ys (Ok l) → Each (BottomUp R) xs ys × Keeps l
      each_up h k none_left = (none, k)
      each_up h k (next_left {t = Ok g} c d) = let first = up h.0 k c in let others = each_up h.1 first.1 d in (next first.0 others.0, others.1)
      each_up h k (next_left {t = Err fault} c d) = absurd (each_stuck_up d)

    mapped_down : (f : F) (x : Expr) (r : Result Expr Fault) (s : Result Expr AllocError) → Keeps f → IfOk r (maps.MapsTopDown expression_of step f x)
        → IfOk s (λ y. r ≡ Ok y) → IfOk s (λ y. TopDown R (expression_of x) (expression_of y))
    mapped_down f x r (Ok y) k h i = let m = subst (λ z. IfOk z (maps.MapsTopDown expression_of step f x)) i h in (down k m.1).0
    mapped_down f x r (Err e) k h i = i

    mapped_up : (f : F) (x : Expr) (r : Result Expr Fault) (s : Result Expr AllocError) → Keeps f → IfOk r (maps.MapsBottomUp expression_of step f x)
        → IfOk s (λ y. r ≡ Ok y) → IfOk s (λ y. BottomUp R (expression_of x) (expression_of y))
    mapped_up f x r (Ok y) k h i = let m = subst (λ z. IfOk z (maps.MapsBottomUp expression_of step f x)) i h in (up (x, refl) k m.1).0
    mapped_up f x r (Err e) k h i = i

-- the same where no call changes the closure
module _ (R : Expression → Expression → Type 0) {F : Type 0} (step : F → Expr → Result Expr Fault → F → Type 0) (f : F)
    (each : (x y : Expr) (g : F) → step f x (Ok y) g → R (expression_of x) (expression_of y) × (g ≡ f)) where
  each_keeps : (h : F) (x y : Expr) (g : F) → h ≡ f → step h x (Ok y) g → R (expression_of x) (expression_of y) × (g ≡ f)
  each_keeps h x y g k p = each x y g (subst (λ z. step z x (Ok y) g) k p)

  pub same_down : (x : Expr) (r : Result Expr Fault) (s : Result Expr AllocError) → IfOk r (maps.MapsTopDown expression_of step f x)
      → IfOk s (λ y. r ≡ Ok y) → IfOk s (λ y. TopDown R (expression_of x) (expression_of y))
  same_down x r s h i = mapped_down R step (λ g. g ≡ f) each_keeps f x r s refl h i

  pub same_up : (x : Expr) (r : Result Expr Fault) (s : Result Expr AllocError) → IfOk r (maps.MapsBottomUp expression_of step f x)
      → IfOk s (λ y. r ≡ Ok y) → IfOk s (λ y. BottomUp R (expression_of x) (expression_of y))
  same_up x r s h i = mapped_up R step (λ g. g ≡ f) each_keeps f x r s refl h i
