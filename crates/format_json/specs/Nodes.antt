-- Nodes without their operands, and the worklist of the writer; the proofs of the code use these.
use Rattle.std.specs.Prelude.{◌≢◌, ℕ, ◌+◌, List, [], ◌∷◌, ◌++◌, codes, ⊤}
use Rattle.std.specs.Borrow.{Bor}
use Rattle.serde_json.specs.Data.{Data, string}
use Rattle.base_language.specs.Language.Grammar.{EndFits, FitsSigned32, FitsUnsigned32}
use Rattle.format_json.specs.Format.{count_data, end_data, form, form_with, form_with_two, place_data, texts_data}
use Rattle.format_json.specs.declared.expressions.NodeOperands.{NodeOperands}
use Rattle.format_json.specs.declared.expressions.NodeOperands.TheVariants as operands
use Rattle.format_json.specs.declared.nodes.JsonNode.{JsonNode}
use Rattle.format_json.specs.declared.nodes.JsonNode.TheVariants as node

-- a node
abbrev pub node_data : JsonNode → Data
node_data (node.Str s) = form_with (codes "str") (string s.now)
node_data (node.Insens s) = form_with (codes "insens") (string s.now)
node_data (node.Range s t) = form_with_two (codes "range") (string s.now) (string t.now)
node_data (node.Ident s) = form_with (codes "ident") (string s.now)
node_data (node.PeekSlice i j) = form_with_two (codes "peek_slice") (place_data i) (end_data j)
node_data node.PosPred = form (codes "pos_pred")
node_data node.NegPred = form (codes "neg_pred")
node_data node.Seq = form (codes "seq")
node_data node.Choice = form (codes "choice")
node_data node.Opt = form (codes "opt")
node_data node.Rep = form (codes "rep")
node_data node.RepOnce = form (codes "rep_once")
node_data (node.RepExact n) = form_with (codes "rep_exact") (count_data n)
node_data (node.RepMin m) = form_with (codes "rep_min") (count_data m)
node_data (node.RepMax n) = form_with (codes "rep_max") (count_data n)
node_data (node.RepMinMax m n) = form_with_two (codes "rep_min_max") (count_data m) (count_data n)
node_data (node.Skip ss) = form_with (codes "skip") (texts_data ss.items)
node_data node.Push = form (codes "push")
node_data (node.PushLiteral s) = form_with (codes "push_literal") (string s.now)
node_data (node.NodeTag s) = form_with (codes "node_tag") (string s.now)
node_data node.RestoreOnErr = form (codes "restore_on_err")

-- the numbers of a node fit 32 bits
abbrev pub HasFittingNumbers : JsonNode → Type 0
HasFittingNumbers (node.PeekSlice i j) = FitsSigned32 i × EndFits j
HasFittingNumbers (node.RepExact n) = FitsUnsigned32 n
HasFittingNumbers (node.RepMin m) = FitsUnsigned32 m
HasFittingNumbers (node.RepMax n) = FitsUnsigned32 n
HasFittingNumbers (node.RepMinMax m n) = FitsUnsigned32 m × FitsUnsigned32 n
HasFittingNumbers _ = ⊤

-- the value is no node
abbrev pub IsNoNode : Data → Type 0
IsNoNode d = (n : JsonNode) → HasFittingNumbers n → node_data n ≢ d

-- the nodes of expressions in a list, the last of them first
abbrev pub in_turn : {A : Type 0} → (A → List Data) → List A → List Data
in_turn nodes [] = []
in_turn nodes (e ∷ es) = in_turn nodes es ++ nodes e

-- the nodes of borrowed expressions
module _ {E : Type 0} (nodes : E → List Data) where
  abbrev pub now_in_turn : List (Bor E) → List Data
  now_in_turn [] = []
  now_in_turn (e ∷ es) = now_in_turn es ++ nodes e.now

  abbrev pub nodes_of_operands : NodeOperands E → List Data
  nodes_of_operands operands.None = []
  nodes_of_operands (operands.One x) = nodes x.now
  nodes_of_operands (operands.Two x y) = nodes x.now ++ nodes y.now

-- their size
module _ {E : Type 0} (heft : E → ℕ) where
  abbrev pub heft_now : List (Bor E) → ℕ
  heft_now [] = 0
  heft_now (e ∷ es) = heft e.now + heft_now es

  abbrev pub heft_of_operands : NodeOperands E → ℕ
  heft_of_operands operands.None = 0
  heft_of_operands (operands.One x) = heft x.now
  heft_of_operands (operands.Two x y) = heft x.now + heft y.now
