-- Which nodes lead to calls of which rules, and ranks by which calls come to an end.
use Rattle.std.specs.Prelude.{◌≡◌, ◌↔◌, ◌⊎◌, ℕ, ◌+◌, ◌<◌, ◌≤◌, List, Option, Some, None, Bool, true, false, slice_get, length, unwrap_or, ⊤}
use Rattle.base_graphs.specs.Least.{is_set_at}
use Rattle.front_stack_loops.specs.Table.{called_by, parts_of}
use Rattle.base_graphs.specs.declared.links.Link.{Link}
use Rattle.front_stack_loops.specs.declared.table.NodeKind.TheVariants as is
use Rattle.front_stack_loops.specs.declared.table.PassNode.{PassNode}
use Rattle.front_stack_loops.specs.declared.table.Parts.{Parts}
use Rattle.front_stack_loops.specs.declared.table.Parts.TheVariants as parts

abbrev pub IsOperandOf : ℕ → Parts → Type 0
IsOperandOf j parts.Nothing = ⊥
IsOperandOf j (parts.Inside k required optional endless) = j ≡ k
IsOperandOf j (parts.Both k l choice) = (j ≡ k) ⊎ (j ≡ l)

module _ (ns : List PassNode) (roots : List ℕ) where
  -- a rule is called in a node, or in a body that is called there
  pub data LeadsToCall : ℕ → ℕ → Type 0 where
    to_call : {i r : ℕ} {n : PassNode} → slice_get ns i ≡ Some n → n.kind ≡ is.Call r → LeadsToCall i r
    by_body : {i j r s : ℕ} {n : PassNode} → slice_get ns i ≡ Some n → n.kind ≡ is.Call r
        → slice_get roots r ≡ Some j → LeadsToCall j s → LeadsToCall i s
    by_operand : {i j s : ℕ} {n : PassNode} → slice_get ns i ≡ Some n → IsOperandOf j (parts_of n.kind)
        → LeadsToCall j s → LeadsToCall i s

  -- the body of one rule leads to a call of another
  abbrev pub LeadsFrom : ℕ → ℕ → Type 0
  LeadsFrom r s = (j : ℕ) × (slice_get roots r ≡ Some j) × LeadsToCall j s

  -- the body of a rule leads to a call of the rule
  abbrev pub LeadsBack : ℕ → Type 0
  LeadsBack r = LeadsFrom r r

  -- the body of a rule leads to whatever a node leads to
  abbrev pub Owns : ℕ → ℕ → Type 0
  Owns r i = (s : ℕ) → LeadsToCall i s → LeadsFrom r s

abbrev pub rank_in : List ℕ → ℕ → ℕ
rank_in ranks i = unwrap_or (slice_get ranks i) 0

abbrev pub PartsFall : List ℕ → ℕ → Parts → Type 0
PartsFall ranks i parts.Nothing = ⊤
PartsFall ranks i (parts.Inside j required optional endless) = rank_in ranks j ≤ rank_in ranks i
PartsFall ranks i (parts.Both j k choice) =
    (rank_in ranks j ≤ rank_in ranks i) × (rank_in ranks k ≤ rank_in ranks i)

module _ (roots : List ℕ) (recursive : List Bool) (ranks : List ℕ) where
  -- the body of a rule that is called at a node has no higher rank, and a lower one if calls are followed
  pub record BodyFalls (i r j : ℕ) : Type 0 where
    pub never_above : rank_in ranks j ≤ rank_in ranks i
    pub below : is_set_at recursive r ≡ false → rank_in ranks j < rank_in ranks i

  abbrev pub CallFalls : ℕ → Option ℕ → Type 0
  CallFalls i None = ⊤
  CallFalls i (Some r) = (j : ℕ) → slice_get roots r ≡ Some j → BodyFalls i r j

  pub record IsRanked (i : ℕ) (n : PassNode) : Type 0 where
    pub few : rank_in ranks i ≤ length roots
    pub operands : PartsFall ranks i (parts_of n.kind)
    pub call : CallFalls i (called_by n.kind)

abbrev pub AreRanked : List PassNode → List ℕ → List Bool → List ℕ → Type 0
AreRanked ns roots recursive ranks =
    (i : ℕ) (n : PassNode) → slice_get ns i ≡ Some n → IsRanked roots recursive ranks i n

-- the flags are set for exactly the rules that reach themselves, and calls of the others lead to lower
-- ranks
pub record AreCalls (ns : List PassNode) (roots : List ℕ) (recursive : List Bool) (ranks : List ℕ)
    : Type 0 where
  pub exact : (r : ℕ) → (is_set_at recursive r ≡ true) ↔ LeadsBack ns roots r
  pub ranked : AreRanked ns roots recursive ranks

abbrev pub bit : Bool → ℕ
bit true = 1
bit false = 0

-- one more where the flag is set
pub record AreRaised (ranks : List ℕ) (flags : List Bool) (raised : List ℕ) : Type 0 where
  pub alike : length raised ≡ length flags
  pub each : (i : ℕ) → rank_in raised i ≡ rank_in ranks i + bit (is_set_at flags i)

-- the rule that is recorded for a node
abbrev pub owner_in : List (Option ℕ) → ℕ → Option ℕ
owner_in owners i = unwrap_or (slice_get owners i) None

-- the leader that is recorded for a rule
abbrev pub leader_in : List ℕ → ℕ → ℕ
leader_in leaders r = unwrap_or (slice_get leaders r) 0

module _ (ns : List PassNode) (roots : List ℕ) where
  abbrev pub AreOwned : List (Option ℕ) → Type 0
  AreOwned owners = (i r : ℕ) → owner_in owners i ≡ Some r → Owns ns roots r i

  abbrev pub AreLinks : List Link → Type 0
  AreLinks links = (k : ℕ) (l : Link) → slice_get links k ≡ Some l → LeadsFrom ns roots l.source l.target

  -- where a flag is set the leader of a rule leads to it, or else the rule to its leader
  abbrev pub AreLed : Bool → List ℕ → List Bool → Type 0
  AreLed true leaders flags = (r : ℕ) → is_set_at flags r ≡ true → LeadsFrom ns roots (leader_in leaders r) r
  AreLed false leaders flags =
      (r : ℕ) → is_set_at flags r ≡ true → LeadsFrom ns roots r (leader_in leaders r)

-- a link, or the same from its target to its source
abbrev pub turned : Bool → Link → Link
turned true link = link
turned false link = record { source = link.target; target = link.source }

-- two rules have one leader, and the first one is that or has its flag set
pub record IsOnward (leaders : List ℕ) (flags : List Bool) (q r : ℕ) : Type 0 where
  pub same : leader_in leaders q ≡ leader_in leaders r
  pub known : (q ≡ leader_in leaders r) ⊎ (is_set_at flags q ≡ true)
