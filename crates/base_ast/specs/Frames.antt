-- Continuation frames of a walk: how it destructures expressions, and the context of its position.
use Rattle.std.specs.Prelude.{◌≡◌, ℕ, ◌+◌, ◌*◌, List, [], ◌∷◌, ◌++◌, Result}
use Rattle.std.specs.Global.{Box}
use Rattle.base_language.specs.Language.Text.{Text}
use Rattle.base_language.specs.Language.Expression.{Expression}
use Rattle.base_language.specs.Language.Expression as e
use Rattle.base_language.specs.declared.runtime.faults.Fault.{Fault}
use Rattle.base_ast.specs.Operands.{operands, count_of_nodes}
use Rattle.base_ast.specs.Maps.{Progress, Becomes, TopDown, BottomUp}
use Rattle.base_ast.specs.declared.shape.Joint.{Joint}
use Rattle.base_ast.specs.declared.shape.Joint.TheVariants as joint
use Rattle.base_ast.specs.declared.walks.Node.{Node}
use Rattle.base_ast.specs.declared.walks.Node.TheVariants as node
use Rattle.base_ast.specs.declared.walks.WalkFrame.{WalkFrame}
use Rattle.base_ast.specs.declared.walks.WalkFrame.TheVariants as frame
use Rattle.base_ast.specs.declared.walks.Onward.{Onward}
use Rattle.base_ast.specs.declared.walks.Onward.TheVariants as onward

-- the operator over one operand
pub data Unary : Type 0 where
  PosPred : Unary
  NegPred : Unary
  Opt : Unary
  Rep : Unary
  RepOnce : Unary
  RepExact : ℕ → Unary
  RepMin : ℕ → Unary
  RepMax : ℕ → Unary
  RepMinMax : ℕ → ℕ → Unary
  Push : Unary
  NodeTag : Text → Unary

abbrev pub around : Unary → Expression → Expression
around PosPred x = e.PosPred x
around NegPred x = e.NegPred x
around Opt x = e.Opt x
around Rep x = e.Rep x
around RepOnce x = e.RepOnce x
around (RepExact i) x = e.RepExact x i
around (RepMin i) x = e.RepMin x i
around (RepMax i) x = e.RepMax x i
around (RepMinMax i j) x = e.RepMinMax x i j
around Push x = e.Push x
around (NodeTag t) x = e.NodeTag x t

abbrev pub joined : Joint → Expression → Expression → Expression
joined joint.Sequence a b = e.Seq a b
joined joint.Choice a b = e.Choice a b

-- `says x`: the expression that a value x of code says; `stands_for s`: the sign that a value s of code is
module _ {E S : Type 0} (says : E → Expression) (stands_for : S → Unary) where
  -- the node is the expression, destructured
  abbrev pub IsOpened : Expression → Node E S → Type 0
  IsOpened whole (node.Leaf x) = (says x ≡ whole) × (operands whole ≡ [])
  IsOpened whole (node.One s x) = whole ≡ around (stands_for s) (says x.value)
  IsOpened whole (node.Two j x y) = whole ≡ joined j (says x.value) (says y.value)

  -- the next node of a walk at an expression; its context is pushed after the frames `ks`
  pub data Opens (whole : Expression) (ks : List (WalkFrame E S)) : Onward E → List (WalkFrame E S)
      → Type 0 where
    leaf : {x : E} {ls : List (WalkFrame E S)}
        → says x ≡ whole → operands whole ≡ [] → ls ≡ ks → Opens whole ks (onward.Done x) ls
    one : (s : S) (room : Box E) {x : E} {ls : List (WalkFrame E S)}
        → whole ≡ around (stands_for s) (says x) → ls ≡ ks ++ (frame.Around s room ∷ [])
        → Opens whole ks (onward.Next x) ls
    two : (j : Joint) (room : Box E) {x : E} (y : Box E) {ls : List (WalkFrame E S)}
        → whole ≡ joined j (says x) (says y.value) → ls ≡ ks ++ (frame.Before j room y ∷ [])
        → Opens whole ks (onward.Next x) ls

  -- the result of a frame that follows the frames `ks`, once `d` is done in it
  pub data Closes (ks : List (WalkFrame E S)) (d : E) : WalkFrame E S → Onward E → List (WalkFrame E S)
      → Type 0 where
    enclosed : {s : S} {room : Box E} {x : E} {ls : List (WalkFrame E S)}
        → says x ≡ around (stands_for s) (says d) → ls ≡ ks
        → Closes ks d (frame.Around s room) (onward.Done x) ls
    put_together : {j : Joint} {a room : Box E} {x : E} {ls : List (WalkFrame E S)}
        → says x ≡ joined j (says a.value) (says d) → ls ≡ ks
        → Closes ks d (frame.After j a room) (onward.Done x) ls
    turned : {j : Joint} {room y : Box E} (left rest : Box E) {x : E} {ls : List (WalkFrame E S)}
        → left.value ≡ d → x ≡ y.value → ls ≡ ks ++ (frame.After j left rest ∷ [])
        → Closes ks d (frame.Before j room y) (onward.Next x) ls

  module _ {F : Type 0} (step : F → E → Result E Fault → F → Type 0) where
    -- with `d` in its place a frame becomes `w`, while the calls lead from `s` to `t`: node before operands
    abbrev pub ClosesTopDown : WalkFrame E S → Progress F → Expression → Expression → Progress F → Type 0
    ClosesTopDown (frame.Around u room) s d w t = (w ≡ around (stands_for u) d) × (t ≡ s)
    ClosesTopDown (frame.Before j room x) s d w t =
        (b : Expression) × TopDown says step s (says x.value) b t × (w ≡ joined j d b)
    ClosesTopDown (frame.After j x room) s d w t = (w ≡ joined j (says x.value) d) × (t ≡ s)

    -- one call at a finished frame, operands before node
    abbrev pub ClosesBottomUp : WalkFrame E S → Progress F → Expression → Expression → Progress F → Type 0
    ClosesBottomUp (frame.Around u room) s d w t = Becomes says step s (around (stands_for u) d) w t
    ClosesBottomUp (frame.Before j room x) s d w t =
        (b : Expression) × (r : Progress F) × BottomUp says step s (says x.value) b r
        × Becomes says step r (joined j d b) w t
    ClosesBottomUp (frame.After j x room) s d w t = Becomes says step s (joined j (says x.value) d) w t

-- `closes k s d w t`: with `d` in its place the frame `k` becomes `w`, while the calls lead from `s` to `t`
module _ {K C : Type 0} (closes : K → C → Expression → Expression → C → Type 0) where
  -- frame by frame, from the last on
  abbrev pub AllClose : List K → C → Expression → Expression → C → Type 0
  AllClose [] s d w t = (w ≡ d) × (t ≡ s)
  AllClose (k ∷ ks) s d w t = (m : Expression) × (r : C) × AllClose ks s d m r × closes k r m w t

-- `says x`: the expression that a value x of code says
module _ {E : Type 0} (says : E → Expression) where
  -- how much there is to be done with the frames of a list
  abbrev pub work_aside : {S : Type 0} → List (WalkFrame E S) → ℕ
  work_aside [] = 0
  work_aside (frame.Around s room ∷ fs) = 1 + work_aside fs
  work_aside (frame.Before j room x ∷ fs) = 3 * count_of_nodes (says x.value) + 2 + work_aside fs
  work_aside (frame.After j x room ∷ fs) = 1 + work_aside fs

  -- how much there is to be done at all
  abbrev pub work_left : {S : Type 0} → Onward E → List (WalkFrame E S) → ℕ
  work_left (onward.Next x) fs = 3 * count_of_nodes (says x) + work_aside fs
  work_left (onward.Done x) fs = work_aside fs

module _ {E S F : Type 0} (says : E → Expression) (stands_for : S → Unary)
    (step : F → E → Result E Fault → F → Type 0) where
  -- the rest of a map gives `w`, and its calls lead from `s` to `t`, node before operands
  abbrev pub EndsTopDown : Onward E → List (WalkFrame E S) → Progress F → Expression → Progress F → Type 0
  EndsTopDown (onward.Next x) ks s w t = (d : Expression) × (r : Progress F)
      × TopDown says step s (says x) d r × AllClose (ClosesTopDown says stands_for step) ks r d w t
  EndsTopDown (onward.Done x) ks s w t = AllClose (ClosesTopDown says stands_for step) ks s (says x) w t

  -- the rest of a map, operands before node: a finished operand still has its call
  abbrev pub EndsBottomUp : Onward E → List (WalkFrame E S) → Progress F → Expression → Progress F → Type 0
  EndsBottomUp (onward.Next x) ks s w t = (d : Expression) × (r : Progress F)
      × BottomUp says step s (says x) d r × AllClose (ClosesBottomUp says stands_for step) ks r d w t
  EndsBottomUp (onward.Done x) ks s w t = (d : Expression) × (r : Progress F)
      × Becomes says step s (says x) d r × AllClose (ClosesBottomUp says stands_for step) ks r d w t
