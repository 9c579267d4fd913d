-- Nodes and operators of the reader; the proofs of the code use these.
use Rattle.std.specs.Prelude.{ℕ, List, [], ◌∷◌, ◌++◌, flat_map, string_bytes, ⊤}
use Rattle.format_binary.specs.Format.{optimized_expression_bytes, text_bytes}
use Rattle.format_binary.specs.Indices.{HasIndices}
use Rattle.format_binary.specs.declared.operators.FirstNode.{FirstNode}
use Rattle.format_binary.specs.declared.operators.FirstNode.TheVariants as first
use Rattle.format_binary.specs.declared.operators.OneOperator.{OneOperator}
use Rattle.format_binary.specs.declared.operators.OneOperator.TheVariants as one
use Rattle.format_binary.specs.declared.operators.TwoOperator.{TwoOperator}
use Rattle.format_binary.specs.declared.operators.TwoOperator.TheVariants as two
use Rattle.format_binary.specs.declared.trees.OpenOperator.{OpenOperator}
use Rattle.format_binary.specs.declared.trees.OpenOperator.TheVariants as open_as

-- operators without their operands
abbrev pub one_bytes : OneOperator → List ℕ
one_bytes one.PosPred = 5 ∷ []
one_bytes one.NegPred = 6 ∷ []
one_bytes one.Opt = 9 ∷ []
one_bytes one.Rep = 10 ∷ []
one_bytes one.RepOnce = 11 ∷ []
one_bytes one.Push = 17 ∷ []
one_bytes (one.NodeTag s) = 19 ∷ text_bytes (string_bytes s)
one_bytes one.RestoreOnErr = 20 ∷ []

abbrev pub two_bytes : TwoOperator → List ℕ
two_bytes two.Seq = 7 ∷ []
two_bytes two.Choice = 8 ∷ []

-- the first node of an expression
abbrev pub first_bytes : FirstNode → List ℕ
first_bytes (first.Whole x) = optimized_expression_bytes x
first_bytes (first.One op) = one_bytes op
first_bytes (first.Two op) = two_bytes op

-- an operator with the operands that it has
abbrev pub operator_bytes : OpenOperator → List ℕ
operator_bytes (open_as.One op) = one_bytes op
operator_bytes (open_as.First op) = two_bytes op
operator_bytes (open_as.Second op left) = two_bytes op ++ optimized_expression_bytes left.value.value

-- operators inside one another, the outermost first
abbrev pub open_bytes : List OpenOperator → List ℕ
open_bytes operators = flat_map operator_bytes operators

-- indices fit 32 bits
abbrev pub IsFirstWithin : FirstNode → Type 0
IsFirstWithin (first.Whole x) = HasIndices x
IsFirstWithin (first.One op) = ⊤
IsFirstWithin (first.Two op) = ⊤

abbrev pub IsOperatorWithin : OpenOperator → Type 0
IsOperatorWithin (open_as.One op) = ⊤
IsOperatorWithin (open_as.First op) = ⊤
IsOperatorWithin (open_as.Second op left) = HasIndices left.value.value

abbrev pub AreWithin : List OpenOperator → Type 0
AreWithin [] = ⊤
AreWithin (o ∷ os) = IsOperatorWithin o × AreWithin os
