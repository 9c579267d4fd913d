-- If a list of nodes is not read as an expression.
use Rattle.std.proofs.Common.{◌≡◌, ◌<◌, ℕ, zero, suc, eqb, false, List, [], ◌∷◌, ◌++◌, map, length, refl, sym, ap, ◌∙◌, subst, append_assoc, arith}
use Rattle.std.specs.List.{flat_map}
use Rattle.std.proofs.lemmas.List.{length-append, length-map, map-append}
use Rattle.serde_json.specs.Data.{Data}
use Rattle.serde_json.specs.View.{view}
use Rattle.serde_json.specs.declared.value.Value.{Value}
use Rattle.format_json.specs.Nodes.{in_turn}
use Rattle.format_json.specs.Refusals.{at_node}
use Rattle.format_json.specs.Unread.{AreOfSeveral, IsUnreadBody, IsUnreadNode, OnReason}
use Rattle.format_json.specs.declared.refusal.Unread.{Unread}
use Rattle.format_json.specs.declared.refusal.Unread.TheVariants as unread
use Rattle.format_json.proofs.Lacking.{flat_turned, turned}

-- a number that is not 0
pub is_some : (n : ℕ) → eqb n 0 ≡ false → 0 < n
is_some zero h = cc
is_some (suc n) h = omega arith

module _ {E : Type 0} (nodes : E → List Data) where
  -- all nodes are those that are left, and those of what was read
  parts_of : (all rest before : List Value) (last : Value) (ops : List E) → map view rest ++ in_turn nodes ops ≡ map view all → rest ≡ before ++ (last ∷ [])
      → map view before ++ (view last ∷ flat_map nodes (turned ops)) ≡ map view all
  parts_of all rest before last ops whole split =
      let left : map view rest ≡ map view before ++ (view last ∷ []) = ap (map view) split ∙ map-append view before (last ∷ []) in
      ap (λ t. map view before ++ (view last ∷ t)) (flat_turned nodes ops) ∙ (sym (append_assoc (map view before) (view last ∷ []) (in_turn nodes ops)) ∙ (ap (λ t. t ++ in_turn nodes ops) (sym left) ∙ whole))

  -- the node at which reading stops
  pub stopped : (all rest before : List Value) (last : Value) (ops : List E) (why : Unread) → map view rest ++ in_turn nodes ops ≡ map view all → rest ≡ before ++ (last ∷ [])
      → OnReason why (IsUnreadNode nodes (view last) (in_turn nodes ops)) → IsUnreadBody nodes (map view all) (at_node why (length before))
  stopped all rest before last ops unread.Memory whole split h = tt
  stopped all rest before last ops (unread.At n why) whole split h = absurd h
  stopped all rest before last ops (unread.Reason why) whole split h = record {
    before = map view before;
    node = view last;
    read = turned ops;
    parts = parts_of all rest before last ops whole split;
    place = length-map before view;
    unread = subst (λ ds. IsUnreadNode nodes (view last) ds) (sym (flat_turned nodes ops)) h;
  }

  length_turned : (es : List E) → length (turned es) ≡ length es
  length_turned [] = refl
  length_turned (e ∷ es) = length-append (turned es) (e ∷ []) ∙ omega (arith, length_turned es)

  -- more than one expression is read
  pub several : (all : List Value) (ops : List E) → in_turn nodes ops ≡ map view all → 1 < length ops → AreOfSeveral nodes (map view all)
  several all ops whole more = (turned ops, subst (λ n. 1 < n) (sym (length_turned ops)) more, flat_turned nodes ops ∙ whole)

  -- so it is if an expression is taken from those that are read, and others are left
  pub left_over : (all rest : List Value) (ops popped : List E) (x : E) → map view rest ++ in_turn nodes ops ≡ map view all → length rest ≡ 0
      → ops ≡ popped ++ (x ∷ []) → 0 < length popped → AreOfSeveral nodes (map view all)
  left_over all [] ops popped x whole none split some =
      let both : length ops ≡ length (popped ++ (x ∷ [])) = ap length split in
      several all ops whole (omega (arith, length-append popped (x ∷ [])))
  left_over all (v ∷ rest) ops popped x whole none split some = absurd (omega arith)
