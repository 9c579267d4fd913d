-- Why a value is not read as a rule.
use Rattle.std.specs.Prelude.{◌≡◌, ◌⊎◌, ◌<◌, ℕ, List, [], ◌∷◌, ◌++◌, None, Some, codes, length, option_and_then, ⊤}
use Rattle.std.specs.List.{flat_map}
use Rattle.serde_json.specs.Data.{Data, array, string}
use Rattle.serde_json.specs.Find.{as_array, as_str, get}
use Rattle.serde_json.specs.View.{items_of}
use Rattle.base_ast.specs.declared.ast.RuleType.{RuleType}
use Rattle.format_json.specs.Format.{type_name}
use Rattle.format_json.specs.Nodes.{IsNoNode}
use Rattle.format_json.specs.declared.refusal.Unread.{Unread}
use Rattle.format_json.specs.declared.refusal.Unread.TheVariants as unread
use Rattle.format_json.specs.declared.refusal.RefusalReason.TheVariants as is

-- an allocation failure, or a reason without a node, and then this holds
abbrev pub OnReason : Unread → Type 0 → Type 0
OnReason unread.Memory P = ⊤
OnReason (unread.Reason why) P = P
OnReason (unread.At node why) P = ⊥

-- the member for a rule's body is a list of these nodes
abbrev pub HasNodes : Data → (List Data → Type 0) → Type 0
HasNodes d P = (ds : List Data) × (get (codes "expr") d ≡ Some (array (items_of ds))) × P ds

-- missing, no list, or empty
abbrev pub HasNoNodes : Data → Type 0
HasNoNodes d = (option_and_then as_array (get (codes "expr") d) ≡ None) ⊎ HasNodes d (λ ds. ds ≡ [])

module _ {E : Type 0} (nodes : E → List Data) where
  -- these are the nodes of no expressions
  abbrev pub AreOfNone : List Data → Type 0
  AreOfNone ds = (es : List E) → flat_map nodes es ≡ ds → ⊥

  -- the value is no node, or with those after it, it is of no expressions
  abbrev pub IsUnreadNode : Data → List Data → Type 0
  IsUnreadNode d after = IsNoNode d ⊎ AreOfNone (d ∷ after)

  -- the nodes after that number are those of expressions, and with the node of that number they are not
  pub record StopsAt (ds : List Data) (n : ℕ) : Type 0 where
    pub before : List Data
    pub node : Data
    pub read : List E
    pub parts : before ++ (node ∷ flat_map nodes read) ≡ ds
    pub place : length before ≡ n
    pub unread : IsUnreadNode node (flat_map nodes read)

  -- the nodes are those of several expressions
  abbrev pub AreOfSeveral : List Data → Type 0
  AreOfSeveral ds = (es : List E) × (1 < length es) × (flat_map nodes es ≡ ds)

  -- why a list of nodes is not read as an expression
  abbrev pub IsUnreadBody : List Data → Unread → Type 0
  IsUnreadBody ds unread.Memory = ⊤
  IsUnreadBody ds (unread.Reason is.Body) = ds ≡ []
  IsUnreadBody ds (unread.Reason is.Left) = AreOfSeveral ds
  IsUnreadBody ds (unread.Reason _) = ⊥
  IsUnreadBody ds (unread.At n why) = StopsAt ds n

  -- why a value is not read as a rule
  abbrev pub IsUnreadRule : Data → Unread → Type 0
  IsUnreadRule d unread.Memory = ⊤
  IsUnreadRule d (unread.Reason is.Name) = option_and_then as_str (get (codes "name") d) ≡ None
  IsUnreadRule d (unread.Reason is.Type) =
      (ty : RuleType) → get (codes "type") d ≡ Some (string (type_name ty)) → ⊥
  IsUnreadRule d (unread.Reason is.Body) = HasNoNodes d
  IsUnreadRule d (unread.Reason is.Left) = HasNodes d AreOfSeveral
  IsUnreadRule d (unread.Reason _) = ⊥
  IsUnreadRule d (unread.At n why) = HasNodes d (λ ds. StopsAt ds n)
