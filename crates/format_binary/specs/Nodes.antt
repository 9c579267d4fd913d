-- Nodes without their operands, and the worklist of the writer; the proofs of the code use these.
use Rattle.std.specs.Prelude.{ℕ, ◌+◌, List, [], ◌∷◌, ◌++◌, string_bytes}
use Rattle.std.specs.Borrow.{Bor}
use Rattle.format_binary.specs.Format.{count_bytes, end_bytes, index_bytes, list_bytes, text_bytes}
use Rattle.format_binary.specs.declared.nodes.BinaryNode.{BinaryNode}
use Rattle.format_binary.specs.declared.nodes.BinaryNode.TheVariants as node
use Rattle.format_binary.specs.declared.nodes.NodeOperands.{NodeOperands}
use Rattle.format_binary.specs.declared.nodes.NodeOperands.TheVariants as operands

-- a node
abbrev pub node_bytes : BinaryNode → List ℕ
node_bytes (node.Str s) = 0 ∷ text_bytes s.now
node_bytes (node.Insens s) = 1 ∷ text_bytes s.now
node_bytes (node.Range s t) = 2 ∷ text_bytes s.now ++ text_bytes t.now
node_bytes (node.Ident s) = 3 ∷ text_bytes s.now
node_bytes (node.PeekSlice i j) = 4 ∷ index_bytes i ++ end_bytes j
node_bytes node.PosPred = 5 ∷ []
node_bytes node.NegPred = 6 ∷ []
node_bytes node.Seq = 7 ∷ []
node_bytes node.Choice = 8 ∷ []
node_bytes node.Opt = 9 ∷ []
node_bytes node.Rep = 10 ∷ []
node_bytes node.RepOnce = 11 ∷ []
node_bytes (node.RepExact n) = 12 ∷ count_bytes n
node_bytes (node.RepMin m) = 13 ∷ count_bytes m
node_bytes (node.RepMax n) = 14 ∷ count_bytes n
node_bytes (node.RepMinMax m n) = 15 ∷ count_bytes m ++ count_bytes n
node_bytes (node.Skip ss) = 16 ∷ list_bytes (λ s. text_bytes (string_bytes s)) ss.now
node_bytes node.Push = 17 ∷ []
node_bytes (node.PushLiteral s) = 18 ∷ text_bytes s.now
node_bytes (node.NodeTag s) = 19 ∷ text_bytes s.now
node_bytes node.RestoreOnErr = 20 ∷ []

-- the bytes of borrowed expressions in a list, the last of them first, and of operands
module _ {E : Type 0} (bytes : E → List ℕ) where
  abbrev pub bytes_in_turn : List (Bor E) → List ℕ
  bytes_in_turn [] = []
  bytes_in_turn (e ∷ es) = bytes_in_turn es ++ bytes e.now

  abbrev pub bytes_of_operands : NodeOperands E → List ℕ
  bytes_of_operands operands.None = []
  bytes_of_operands (operands.One x) = bytes x.now
  bytes_of_operands (operands.Two x y) = bytes x.now ++ bytes y.now

-- their size
module _ {E : Type 0} (heft : E → ℕ) where
  abbrev pub heft_in_turn : List (Bor E) → ℕ
  heft_in_turn [] = 0
  heft_in_turn (e ∷ es) = heft e.now + heft_in_turn es

  abbrev pub heft_of_operands : NodeOperands E → ℕ
  heft_of_operands operands.None = 0
  heft_of_operands (operands.One x) = heft x.now
  heft_of_operands (operands.Two x y) = heft x.now + heft y.now
