-- Why a text is not read as rules, as a JSON value.
use Rattle.std.specs.Prelude.{◌≡◌, ℕ, List, None, Some, codes, map, slice_get, take, ⊤}
use Rattle.serde_json.specs.Data.{Data, array, member, no_members, object, string}
use Rattle.serde_json.specs.Find.{as_array}
use Rattle.serde_json.specs.Read.{read}
use Rattle.serde_json.specs.View.{items_of}
use Rattle.format_json.specs.Errors.{size_data}
use Rattle.format_json.specs.Format.{nodes_of, optimized_nodes_of}
use Rattle.format_json.specs.Reading.{Members, members_of, members_of_optimized, members_of_rule}
use Rattle.format_json.specs.Unread.{IsUnreadRule}
use Rattle.format_json.specs.declared.refusal.RefusalLocation.{RefusalLocation}
use Rattle.format_json.specs.declared.refusal.RefusalLocation.TheVariants as place
use Rattle.format_json.specs.declared.refusal.Refusal.{Refusal}
use Rattle.format_json.specs.declared.refusal.Refusal.TheVariants as refusal
use Rattle.format_json.specs.declared.refusal.Unread.{Unread}
use Rattle.format_json.specs.declared.refusal.Unread.TheVariants as unread
use Rattle.format_json.specs.declared.refusal.RefusalReason.{RefusalReason}
use Rattle.format_json.specs.declared.refusal.RefusalReason.TheVariants as is

-- the message of a reason
abbrev pub message_of : RefusalReason → List ℕ
message_of is.Json = codes "this is no JSON"
message_of is.NoList = codes "a list of rules is wanted"
message_of is.Name = codes "a rule's `name` has to be a text"
message_of is.Type = codes "a rule's `type` has to be one of the five types"
message_of is.Body = codes "a rule's `expr` has to be a list of nodes"
message_of is.Node = codes "a node is a list that begins with the name of its form"
message_of is.Form = codes "no node here has this form with these arguments"
message_of is.Operands = codes "an operand of this node is missing"
message_of is.Left = codes "there are more nodes than the expression has"
message_of is.UnknownRule = codes "no rule of the meta-grammar has this name"

-- a message and its location
abbrev pub message_data : RefusalLocation → List ℕ → Data
message_data (place.Text line column) message = object (member (codes "column") (size_data column)
    (member (codes "line") (size_data line) (member (codes "message") (string message) no_members)))
message_data place.Whole message = object (member (codes "message") (string message) no_members)
message_data (place.Rule rule) message = object (member (codes "message") (string message)
    (member (codes "rule") (size_data rule) no_members))
message_data (place.Node rule node) message = object (member (codes "message") (string message)
    (member (codes "node") (size_data node) (member (codes "rule") (size_data rule) no_members)))

-- a refusal: its location, and its message
abbrev pub refusal_data : RefusalLocation → RefusalReason → Data
refusal_data p w = message_data p (message_of w)

-- a part that is refused, in the rule of that number
abbrev pub in_rule : Unread → ℕ → Refusal
in_rule unread.Memory rule = refusal.Memory
in_rule (unread.Reason why) rule = refusal.Text (place.Rule rule) why
in_rule (unread.At node why) rule = refusal.Text (place.Node rule node) why

-- a part that is refused, at the node of that number
abbrev pub at_node : Unread → ℕ → Unread
at_node unread.Memory node = unread.Memory
at_node (unread.Reason why) node = unread.At node why
at_node (unread.At other why) node = unread.At other why

-- the refusal of a text: an allocation failure; no JSON, with a line and a column; no list; or a reason in
-- the rule of that number, of which this is said
abbrev pub RefusesBy : (ℕ → Unread → Type 0) → List ℕ → Refusal → Type 0
RefusesBy InRule text refusal.Memory = ⊤
RefusesBy InRule text (refusal.Text (place.Text line column) why) = (why ≡ is.Json) × (read text ≡ None)
RefusesBy InRule text (refusal.Text place.Whole why) =
    (why ≡ is.NoList) × ((d : Data) × (read text ≡ Some d) × (as_array d ≡ None))
RefusesBy InRule text (refusal.Text (place.Rule rule) why) = InRule rule (unread.Reason why)
RefusesBy InRule text (refusal.Text (place.Node rule node) why) = InRule rule (unread.At node why)

-- the refusal of a text as rules of any kind; nothing is said of a reason in a rule
abbrev pub IsRefusedText : List ℕ → Refusal → Type 0
IsRefusedText text r = RefusesBy (λ rule why. ⊤) text r

module _ {R E : Type 0} (members : R → Members) (nodes : E → List Data) where
  -- the text is a list in JSON whose value of that number is the first that is not read, for this reason
  pub record IsUnreadAt (text : List ℕ) (n : ℕ) (why : Unread) : Type 0 where
    pub ds : List Data
    pub lists : read text ≡ Some (array (items_of ds))
    pub rules : List R
    pub before : map members_of (take n ds) ≡ map members rules
    pub value : Data
    pub there : slice_get ds n ≡ Some value
    pub unread : IsUnreadRule nodes value why

  -- a reason in a rule is that of the first value that is not read
  abbrev pub Refuses : List ℕ → Refusal → Type 0
  Refuses text r = RefusesBy (λ rule why. IsUnreadAt text rule why) text r

-- the refusal of a text as rules, and as optimized rules
abbrev pub IsRefusedAsRules : List ℕ → Refusal → Type 0
IsRefusedAsRules text r = Refuses members_of_rule nodes_of text r

abbrev pub IsRefusedAsOptimized : List ℕ → Refusal → Type 0
IsRefusedAsOptimized text r = Refuses members_of_optimized optimized_nodes_of text r

-- the refusal of the value of that number
abbrev pub RefusesValue : {E : Type 0} → (E → List Data) → Data → ℕ → Refusal → Type 0
RefusesValue nodes d rule r = (why : Unread) × (r ≡ in_rule why rule) × IsUnreadRule nodes d why
