-- An expression of a node is made of the last of those that were read.
use Rattle.std.proofs.Common.{◌≡◌, List, [], ◌∷◌, ◌++◌, sym, ap, ap₂, ◌∙◌}
use Rattle.serde_json.specs.Data.{Data}
use Rattle.format_json.specs.Nodes.{in_turn, node_data}
use Rattle.format_json.specs.declared.nodes.JsonNode.{JsonNode}
use Rattle.format_json.proofs.Turns.{in_turn_last, in_turn_last_two}

module _ {E : Type 0} (nodes : E → List Data) where
  pub of_one : (n m : JsonNode) (old new : List E) (x : E) → n ≡ m → old ≡ new ++ (x ∷ [])
      → (node_data m ∷ nodes x) ++ in_turn nodes new ≡ node_data n ∷ in_turn nodes old
  of_one n m old new x same taken =
      ap₂ (λ k t. node_data k ∷ t) (sym same) (sym (ap (in_turn nodes) taken ∙ in_turn_last nodes new x))

  pub of_two : (n m : JsonNode) (old new : List E) (x y : E) → n ≡ m → old ≡ (new ++ (y ∷ [])) ++ (x ∷ [])
      → (node_data m ∷ (nodes x ++ nodes y)) ++ in_turn nodes new ≡ node_data n ∷ in_turn nodes old
  of_two n m old new x y same taken =
      ap₂ (λ k t. node_data k ∷ t) (sym same) (sym (ap (in_turn nodes) taken ∙ in_turn_last_two nodes new x y))
