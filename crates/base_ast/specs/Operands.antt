-- Operands of an expression, the expression over other operands, its nodes in preorder, and its size.
use Rattle.std.specs.Prelude.{ℕ, ◌+◌, List, [], ◌∷◌, ◌++◌}
use Rattle.base_language.specs.Language.Expression.{Expression, PosPred, NegPred, Seq, Choice, Opt, Rep, RepOnce, RepExact, RepMin, RepMax, RepMinMax, Push, NodeTag, RestoreOnErr}

-- the nodes right below an expression, in order; none below a wrapper
abbrev pub operands : Expression → List Expression
operands (PosPred e) = e ∷ []
operands (NegPred e) = e ∷ []
operands (Seq a b) = a ∷ (b ∷ [])
operands (Choice a b) = a ∷ (b ∷ [])
operands (Opt e) = e ∷ []
operands (Rep e) = e ∷ []
operands (RepOnce e) = e ∷ []
operands (RepExact e i) = e ∷ []
operands (RepMin e i) = e ∷ []
operands (RepMax e i) = e ∷ []
operands (RepMinMax e i j) = e ∷ []
operands (Push e) = e ∷ []
operands (NodeTag e t) = e ∷ []
operands _ = []

-- an expression with its operands replaced by the first of a list
abbrev pub over : Expression → List Expression → Expression
over (PosPred e) (a ∷ xs) = PosPred a
over (NegPred e) (a ∷ xs) = NegPred a
over (Seq e f) (a ∷ (b ∷ xs)) = Seq a b
over (Choice e f) (a ∷ (b ∷ xs)) = Choice a b
over (Opt e) (a ∷ xs) = Opt a
over (Rep e) (a ∷ xs) = Rep a
over (RepOnce e) (a ∷ xs) = RepOnce a
over (RepExact e i) (a ∷ xs) = RepExact a i
over (RepMin e i) (a ∷ xs) = RepMin a i
over (RepMax e i) (a ∷ xs) = RepMax a i
over (RepMinMax e i j) (a ∷ xs) = RepMinMax a i j
over (Push e) (a ∷ xs) = Push a
over (NodeTag e t) (a ∷ xs) = NodeTag a t
over e _ = e

-- an expression and all nodes of a walk below it: node before operands, left before right
abbrev pub preorder : Expression → List Expression
preorder (PosPred e) = PosPred e ∷ preorder e
preorder (NegPred e) = NegPred e ∷ preorder e
preorder (Seq a b) = Seq a b ∷ (preorder a ++ preorder b)
preorder (Choice a b) = Choice a b ∷ (preorder a ++ preorder b)
preorder (Opt e) = Opt e ∷ preorder e
preorder (Rep e) = Rep e ∷ preorder e
preorder (RepOnce e) = RepOnce e ∷ preorder e
preorder (RepExact e i) = RepExact e i ∷ preorder e
preorder (RepMin e i) = RepMin e i ∷ preorder e
preorder (RepMax e i) = RepMax e i ∷ preorder e
preorder (RepMinMax e i j) = RepMinMax e i j ∷ preorder e
preorder (Push e) = Push e ∷ preorder e
preorder (NodeTag e t) = NodeTag e t ∷ preorder e
preorder e = e ∷ []

-- how many nodes an expression has, those below a wrapper too
abbrev pub count_of_nodes : Expression → ℕ
count_of_nodes (PosPred e) = count_of_nodes e + 1
count_of_nodes (NegPred e) = count_of_nodes e + 1
count_of_nodes (Seq a b) = count_of_nodes a + count_of_nodes b + 1
count_of_nodes (Choice a b) = count_of_nodes a + count_of_nodes b + 1
count_of_nodes (Opt e) = count_of_nodes e + 1
count_of_nodes (Rep e) = count_of_nodes e + 1
count_of_nodes (RepOnce e) = count_of_nodes e + 1
count_of_nodes (RepExact e i) = count_of_nodes e + 1
count_of_nodes (RepMin e i) = count_of_nodes e + 1
count_of_nodes (RepMax e i) = count_of_nodes e + 1
count_of_nodes (RepMinMax e i j) = count_of_nodes e + 1
count_of_nodes (Push e) = count_of_nodes e + 1
count_of_nodes (NodeTag e t) = count_of_nodes e + 1
count_of_nodes (RestoreOnErr e) = count_of_nodes e + 1
count_of_nodes _ = 1
