-- Expressions that are taken apart, and frames that are closed: one frame more or less at the end of a list.
use Rattle.std.proofs.Common.{◌≡◌, ℕ, ◌+◌, ◌*◌, ◌<◌, ◌≤◌, List, [], ◌∷◌, ◌++◌, refl, ap, ◌∙◌, arith}
use Rattle.base_language.specs.Language.Expression.{Expression}
use Rattle.base_language.specs.Language.Expression as e
use Rattle.base_ast.specs.Operands.{operands, over, count_of_nodes}
use Rattle.base_ast.specs.Frames.{Unary, PosPred, NegPred, Opt, Rep, RepOnce, RepExact, RepMin, RepMax, RepMinMax, Push, NodeTag, around, joined, AllClose, Opens, leaf, one, two, Closes, enclosed, put_together, turned, work_aside, work_left}
use Rattle.base_ast.specs.declared.shape.Joint.{Joint}
use Rattle.base_ast.specs.declared.shape.Joint.TheVariants as joint
use Rattle.base_ast.specs.declared.walks.WalkFrame.{WalkFrame}
use Rattle.base_ast.specs.declared.walks.WalkFrame.TheVariants as frame
use Rattle.base_ast.specs.declared.walks.Onward.{Onward}
use Rattle.base_ast.specs.declared.walks.Onward.TheVariants as onward

pub operands-around : (u : Unary) (x : Expression) → operands (around u x) ≡ x ∷ []
operands-around PosPred x = refl
operands-around NegPred x = refl
operands-around Opt x = refl
operands-around Rep x = refl
operands-around RepOnce x = refl
operands-around (RepExact i) x = refl
operands-around (RepMin i) x = refl
operands-around (RepMax i) x = refl
operands-around (RepMinMax i j) x = refl
operands-around Push x = refl
operands-around (NodeTag t) x = refl

pub over-around : (u : Unary) (x y : Expression) → over (around u x) (y ∷ []) ≡ around u y
over-around PosPred x y = refl
over-around NegPred x y = refl
over-around Opt x y = refl
over-around Rep x y = refl
over-around RepOnce x y = refl
over-around (RepExact i) x y = refl
over-around (RepMin i) x y = refl
over-around (RepMax i) x y = refl
over-around (RepMinMax i j) x y = refl
over-around Push x y = refl
over-around (NodeTag t) x y = refl

pub count_of_nodes-around : (u : Unary) (x : Expression) → count_of_nodes (around u x) ≡ count_of_nodes x + 1
count_of_nodes-around PosPred x = refl
count_of_nodes-around NegPred x = refl
count_of_nodes-around Opt x = refl
count_of_nodes-around Rep x = refl
count_of_nodes-around RepOnce x = refl
count_of_nodes-around (RepExact i) x = refl
count_of_nodes-around (RepMin i) x = refl
count_of_nodes-around (RepMax i) x = refl
count_of_nodes-around (RepMinMax i j) x = refl
count_of_nodes-around Push x = refl
count_of_nodes-around (NodeTag t) x = refl

pub operands-joined : (j : Joint) (x y : Expression) → operands (joined j x y) ≡ x ∷ (y ∷ [])
operands-joined joint.Sequence x y = refl
operands-joined joint.Choice x y = refl

pub over-joined : (j : Joint) (x y a b : Expression) → over (joined j x y) (a ∷ (b ∷ [])) ≡ joined j a b
over-joined joint.Sequence x y a b = refl
over-joined joint.Choice x y a b = refl

pub count_of_nodes-joined : (j : Joint) (x y : Expression) → count_of_nodes (joined j x y) ≡ count_of_nodes x + count_of_nodes y + 1
count_of_nodes-joined joint.Sequence x y = refl
count_of_nodes-joined joint.Choice x y = refl

pub over-nil : (x : Expression) → over x [] ≡ x
over-nil (e.Str s) = refl
over-nil (e.Insens s) = refl
over-nil (e.Range s t) = refl
over-nil (e.Ident s) = refl
over-nil (e.PeekSlice i j) = refl
over-nil (e.PosPred x) = refl
over-nil (e.NegPred x) = refl
over-nil (e.Seq x y) = refl
over-nil (e.Choice x y) = refl
over-nil (e.Opt x) = refl
over-nil (e.Rep x) = refl
over-nil (e.RepOnce x) = refl
over-nil (e.RepExact x i) = refl
over-nil (e.RepMin x i) = refl
over-nil (e.RepMax x i) = refl
over-nil (e.RepMinMax x i j) = refl
over-nil (e.Skip ss) = refl
over-nil (e.PushLiteral s) = refl
over-nil (e.Push x) = refl
over-nil (e.NodeTag x s) = refl
over-nil (e.RestoreOnErr x) = refl

pub over-operands : (x : Expression) → over x (operands x) ≡ x
over-operands (e.Str s) = refl
over-operands (e.Insens s) = refl
over-operands (e.Range s t) = refl
over-operands (e.Ident s) = refl
over-operands (e.PeekSlice i j) = refl
over-operands (e.Skip ss) = refl
over-operands (e.PushLiteral s) = refl
over-operands (e.RestoreOnErr x) = refl
over-operands (e.PosPred x) = refl
over-operands (e.NegPred x) = refl
over-operands (e.Opt x) = refl
over-operands (e.Rep x) = refl
over-operands (e.RepOnce x) = refl
over-operands (e.RepExact x i) = refl
over-operands (e.RepMin x i) = refl
over-operands (e.RepMax x i) = refl
over-operands (e.RepMinMax x i j) = refl
over-operands (e.Push x) = refl
over-operands (e.NodeTag x s) = refl
over-operands (e.Seq x y) = refl
over-operands (e.Choice x y) = refl

-- there is the node itself
pub some_node : (x : Expression) → 0 < count_of_nodes x
some_node (e.Str s) = omega arith
some_node (e.Insens s) = omega arith
some_node (e.Range s t) = omega arith
some_node (e.Ident s) = omega arith
some_node (e.PeekSlice i j) = omega arith
some_node (e.PosPred x) = omega arith
some_node (e.NegPred x) = omega arith
some_node (e.Seq x y) = omega arith
some_node (e.Choice x y) = omega arith
some_node (e.Opt x) = omega arith
some_node (e.Rep x) = omega arith
some_node (e.RepOnce x) = omega arith
some_node (e.RepExact x i) = omega arith
some_node (e.RepMin x i) = omega arith
some_node (e.RepMax x i) = omega arith
some_node (e.RepMinMax x i j) = omega arith
some_node (e.Skip ss) = omega arith
some_node (e.PushLiteral s) = omega arith
some_node (e.Push x) = omega arith
some_node (e.NodeTag x s) = omega arith
some_node (e.RestoreOnErr x) = omega arith

module _ {K F : Type 0} (closes : K → F → Expression → Expression → F → Type 0) where
  pub last_closes : (ks : List K) (k : K) (f g h : F) (d m w : Expression) → closes k f d m h → AllClose closes ks h m w g → AllClose closes (ks ++ (k ∷ [])) f d w g
  last_closes [] k f g h d m w c (p, q) = (_, _, (refl, refl), rw (p, q) c)
  last_closes (j ∷ ks) k f g h d m w c (m', h', a, b) = (m', h', last_closes ks k f h' h d m m' c a, b)

  -- what the last frame becomes, and then the others
  pub record IsSplit (ks : List K) (k : K) (f : F) (d w : Expression) (g : F) : Type 0 where
    pub middle : Expression
    pub state : F
    pub last : closes k f d middle state
    pub others : AllClose closes ks state middle w g

  pub split_last : (ks : List K) (k : K) (f g : F) (d w : Expression) → AllClose closes (ks ++ (k ∷ [])) f d w g → IsSplit ks k f d w g
  split_last [] k f g d w (m, h, (p, q), c) = record { middle = _; state = _; last = rw (p, q) at c; others = (refl, refl) }
  split_last (j ∷ ks) k f g d w (m, h, a, b) =
      let i = split_last ks k f h d m a in record { middle = i.middle; state = i.state; last = i.last; others = (m, h, i.others, b) }

module _ {E S : Type 0} (says : E → Expression) where
  work_aside-last : (ks : List (WalkFrame E S)) (k : WalkFrame E S) → work_aside says (ks ++ (k ∷ [])) ≡ work_aside says ks + work_aside says (k ∷ [])
  work_aside-last [] (frame.Around s room) = omega arith
  work_aside-last [] (frame.Before j room x) = omega arith
  work_aside-last [] (frame.After j x room) = omega arith
  work_aside-last (frame.Around s room ∷ ks) k = let h = work_aside-last ks k in omega arith
  work_aside-last (frame.Before j room x ∷ ks) k = let h = work_aside-last ks k in omega arith
  work_aside-last (frame.After j x room ∷ ks) k = let h = work_aside-last ks k in omega arith

  module _ (stands_for : S → Unary) where
    -- less is left below an expression of no more than `n` nodes
    pub opens_less : (ks ls : List (WalkFrame E S)) (whole : Expression) (n : ℕ) (next : Onward E) → count_of_nodes whole ≤ n → Opens says stands_for whole ks next ls → work_left says next ls < 3 * n + work_aside says ks
    opens_less ks ls whole n (onward.Done x) b (leaf p q e) =
        let h : work_aside says ls ≡ work_aside says ks = ap (work_aside says) e in
        let i : 0 < count_of_nodes whole = some_node whole in
        omega arith
    opens_less ks ls whole n (onward.Next x) b (one s room p q) =
        let h : count_of_nodes whole ≡ count_of_nodes (says x) + 1 = ap count_of_nodes p ∙ count_of_nodes-around (stands_for s) (says x) in
        let i : work_aside says ls ≡ work_aside says ks + (1 + 0) = rw q (work_aside-last ks (frame.Around s room)) in
        omega arith
    opens_less ks ls whole n (onward.Next x) b (two j room y p q) =
        let h : count_of_nodes whole ≡ count_of_nodes (says x) + count_of_nodes (says y.value) + 1 = ap count_of_nodes p ∙ count_of_nodes-joined j (says x) (says y.value) in
        let i : work_aside says ls ≡ work_aside says ks + (3 * count_of_nodes (says y.value) + 2 + 0) = rw q (work_aside-last ks (frame.Before j room y)) in
        omega arith

    -- less is left once the last frame is closed, or its right side is met next
    pub closes_less : (ks ls ms : List (WalkFrame E S)) (d : E) (k : WalkFrame E S) (next : Onward E) → ms ≡ ks ++ (k ∷ []) → Closes says stands_for ks d k next ls → work_left says next ls < work_aside says ms
    closes_less ks ls ms d (frame.Around s room) (onward.Done x) m (enclosed p q) =
        let h : work_aside says ms ≡ work_aside says ks + (1 + 0) = rw m (work_aside-last ks (frame.Around s room)) in
        let i : work_aside says ls ≡ work_aside says ks = ap (work_aside says) q in
        omega arith
    closes_less ks ls ms d (frame.After j a room) (onward.Done x) m (put_together p q) =
        let h : work_aside says ms ≡ work_aside says ks + (1 + 0) = rw m (work_aside-last ks (frame.After j a room)) in
        let i : work_aside says ls ≡ work_aside says ks = ap (work_aside says) q in
        omega arith
    closes_less ks ls ms d (frame.Before j room y) (onward.Next x) m (turned left rest p r q) =
        let h : work_aside says ms ≡ work_aside says ks + (3 * count_of_nodes (says y.value) + 2 + 0) = rw m (work_aside-last ks (frame.Before j room y)) in
        let i : work_aside says ls ≡ work_aside says ks + (1 + 0) = rw q (work_aside-last ks (frame.After j left rest)) in
        let e : count_of_nodes (says x) ≡ count_of_nodes (says y.value) = ap (λ z. count_of_nodes (says z)) r in
        omega arith
    closes_less ks ls ms d (frame.Around s room) (onward.Next _) m c = elim c [ ]
    closes_less ks ls ms d (frame.After j a room) (onward.Next _) m c = elim c [ ]
    closes_less ks ls ms d (frame.Before j room y) (onward.Done _) m c = elim c [ ]
