-- What is said of a reason that is passed on.
use Rattle.std.proofs.Common.{◌≡◌, ◌<◌, inl, inr, List, [], ◌∷◌, ◌++◌, length, ap, subst, length-append, arith}
use Rattle.serde_json.specs.Data.{Data}
use Rattle.format_json.specs.Nodes.{IsNoNode, node_data}
use Rattle.format_json.specs.Unread.{AreOfNone, IsUnreadNode, OnReason}
use Rattle.format_json.specs.declared.nodes.JsonNode.{JsonNode}
use Rattle.format_json.specs.declared.refusal.Unread.{Unread}
use Rattle.format_json.specs.declared.refusal.Unread.TheVariants as unread

pub weaker : (why : Unread) (P Q : Type 0) → (P → Q) → OnReason why P → OnReason why Q
weaker unread.Memory P Q f h = tt
weaker (unread.Reason why) P Q f h = f h
weaker (unread.At node why) P Q f h = absurd h

-- an operand of one, the first of two, and the second of two are missing
pub none_of_one : {A : Type 0} (xs : List A) → xs ≡ [] → length xs < 1
none_of_one xs e = let none : length xs ≡ 0 = ap length e in omega arith

pub none_of_two : {A : Type 0} (xs : List A) → xs ≡ [] → length xs < 2
none_of_two xs e = let none : length xs ≡ 0 = ap length e in omega arith

pub one_of_two : {A : Type 0} (xs ys : List A) (x : A) → xs ≡ ys ++ (x ∷ []) → ys ≡ [] → length xs < 2
one_of_two xs ys x taken e =
    let none : length ys ≡ 0 = ap length e in
    let one : length xs ≡ length (ys ++ (x ∷ [])) = ap length taken in
    omega (arith, length-append ys (x ∷ []))

module _ {E : Type 0} (nodes : E → List Data) where
  pub no_node : (d : Data) (ds : List Data) → IsNoNode d → IsUnreadNode nodes d ds
  no_node d ds h = inl h

  pub no_parts : (n : JsonNode) (d : Data) (ds : List Data) → node_data n ≡ d → AreOfNone nodes (node_data n ∷ ds) → IsUnreadNode nodes d ds
  no_parts n d ds e h = inr (subst (λ x. AreOfNone nodes (x ∷ ds)) e h)
