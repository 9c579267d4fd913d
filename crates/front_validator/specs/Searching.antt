-- Invariants of the search for left recursion: its worklist, and the rules that it has entered.
use Rattle.std.specs.Prelude.{◌≡◌, ◌⊎◌, ℕ, suc, ◌+◌, if◌then◌else◌, List, [], ◌∷◌, ◌++◌, Option, Some, None, Bool, true, false, ⊤, length, slice_get}
use Rattle.std.specs.List.{Contains}
use Rattle.base_language.specs.Language.Text.{Text}
use Rattle.front_spanned.specs.Erasure.{without_spans}
use Rattle.front_spanned.specs.Nodes.{rule_views}
use Rattle.front_spanned.specs.Spanned.{Spanned, span_of, SpannedRule}
use Rattle.front_spanned.specs.declared.node.ParserRule.{ParserRule}
use Rattle.base_graphs.specs.Least.{is_set_at}
use Rattle.front_validator.specs.Flags.{NoneSet}
use Rattle.front_validator.specs.LeftRecursion.{Closed, said, Means, Walks}
use Rattle.front_analysis.specs.Nodes.{all_nodes, size}
use Rattle.front_validator.specs.Regions.{IsNodeOf}
use Rattle.front_validator.specs.Walk.{Walked, WalkLeads}
use Rattle.front_validator.specs.declared.recursions.Task.{Task}
use Rattle.front_validator.specs.declared.recursions.Walk.{Walk}
use Rattle.front_analysis.specs.declared.kind_table.NodeKind.{NodeKind}
use Rattle.front_analysis.specs.declared.kind_table.NodeKind.TheVariants as is
use Rattle.front_validator.specs.declared.recursions.Task.TheVariants.{Visit, Leave}

-- a list from its end to its start
abbrev pub ordered : {A : Type 0} → List A → List A
ordered [] = []
ordered (x ∷ xs) = ordered xs ++ x ∷ []

-- a path without its last rule
abbrev pub rest : List ℕ → List ℕ
rest [] = []
rest (k ∷ path) = path

-- the tasks once the last rule of the path is left
abbrev pub after : List Task → List Task
after [] = []
after (Leave ∷ todo) = todo
after (Visit i ∷ todo) = after todo

-- the rule that a node calls
abbrev pub called_in : Option NodeKind → Option ℕ
called_in (Some (is.Call k)) = Some k
called_in (Some (is.EndCall k)) = Some k
called_in _ = None

-- the tasks inside a node; the first in the text is the last in the list
abbrev pub inside_of : List Bool → Option NodeKind → List Task
inside_of passing (Some (is.Ahead j)) = Visit j ∷ []
inside_of passing (Some (is.NotAhead j)) = Visit j ∷ []
inside_of passing (Some (is.Free j)) = Visit j ∷ []
inside_of passing (Some (is.Inside j)) = Visit j ∷ []
inside_of passing (Some (is.Again j)) = Visit j ∷ []
inside_of passing (Some (is.OnceAgain j)) = Visit j ∷ []
inside_of passing (Some (is.Seq j k)) =
    if is_set_at passing j then Visit k ∷ Visit j ∷ [] else Visit j ∷ []
inside_of passing (Some (is.Choice j k)) = Visit k ∷ Visit j ∷ []
inside_of passing _ = []

abbrev pub size_at : Option Spanned → ℕ
size_at None = 0
size_at (Some x) = size x

-- a bound of the steps to do: every node is walked over once, and every rule left once
abbrev pub cost : List Spanned → List Task → ℕ
cost nodes [] = 0
cost nodes (Leave ∷ tasks) = suc (cost nodes tasks)
cost nodes (Visit i ∷ tasks) = size_at (slice_get nodes i) + cost nodes tasks

-- a bound of the steps in the rules that were not entered
abbrev pub unentered : List Bool → List SpannedRule → ℕ
unentered [] rules = 0
unentered (b ∷ entered) [] = 0
unentered (true ∷ entered) (r ∷ rules) = unentered entered rules
unentered (false ∷ entered) (r ∷ rules) = size r.body + 2 + unentered entered rules

module _ (rules : List ParserRule) (roots : List ℕ) (start : ℕ) where
  abbrev pub views : List SpannedRule
  views = rule_views rules

  -- the walk over a part of the body of v comes to a call of the rule at this index
  abbrev pub Calls : Text → Spanned → ℕ → Type 0
  Calls v x k = (n : Text) × Walked (said views) v (without_spans x) n × Means views n k

  abbrev pub name_of : Option SpannedRule → Text
  name_of None = []
  name_of (Some r) = r.name

  -- the name of the last rule of a path, which is the first element here
  abbrev pub last_name : List ℕ → Text
  last_name [] = []
  last_name (k ∷ path) = name_of (slice_get views k)

  -- the result of the walk over the node of a number
  abbrev pub WalkFinds : List ℕ → ℕ → Option Closed → Type 0
  WalkFinds path i o = (x : Spanned) → slice_get (all_nodes rules) i ≡ Some x
      → Walks views start (ordered path) (last_name path) x o

  -- the first result of all tasks
  abbrev pub TasksFind : List ℕ → List Task → Option Closed → Type 0
  TasksFind path [] o = o ≡ None
  TasksFind path (Leave ∷ todo) o = TasksFind (rest path) todo o
  TasksFind path (Visit i ∷ todo) None = WalkFinds path i None × TasksFind path todo None
  TasksFind path (Visit i ∷ todo) (Some z) =
      WalkFinds path i (Some z) ⊎ (WalkFinds path i None × TasksFind path todo (Some z))

  -- a call in the body of v, the last rule of the path, to which the walk has not come yet
  abbrev pub AwaitsCall : Text → List Task → ℕ → Type 0
  AwaitsCall v [] k = ⊥
  AwaitsCall v (Leave ∷ todo) k = ⊥
  AwaitsCall v (Visit i ∷ todo) k =
      ((x : Spanned) × (slice_get (all_nodes rules) i ≡ Some x) × Calls v x k) ⊎ AwaitsCall v todo k

  -- every node in the tasks is one of the body of the last rule of its path
  abbrev pub ArePlaced : List ℕ → List Task → Type 0
  ArePlaced path [] = path ≡ []
  ArePlaced path (Leave ∷ todo) = ArePlaced (rest path) todo
  ArePlaced [] (Visit i ∷ todo) = ⊥
  ArePlaced (k ∷ path) (Visit i ∷ todo) =
      ((x : Spanned) × IsNodeOf rules roots k i x) × ArePlaced (k ∷ path) todo

  -- a rule that was entered, and is not the start
  abbrev pub IsKnown : List Bool → ℕ → Type 0
  IsKnown entered k = (k ≡ start → ⊥) × (is_set_at entered k ≡ true)

  -- a call in the body of a rule of the path is known, or the walk will come to it
  abbrev pub AreCovered : List Bool → List ℕ → List Task → Type 0
  AreCovered entered [] todo = ⊤
  AreCovered entered (k ∷ path) todo = ((r : SpannedRule) (m : ℕ) → slice_get views k ≡ Some r
      → Calls r.name r.body m → IsKnown entered m ⊎ AwaitsCall r.name todo m)
      × AreCovered entered path (after todo)

  -- all calls of a rule that was entered and left are known
  abbrev pub AreSettled : List Bool → List ℕ → Type 0
  AreSettled entered path = (k : ℕ) → is_set_at entered k ≡ true → (Contains (ordered path) k → ⊥)
      → (r : SpannedRule) (m : ℕ) → slice_get views k ≡ Some r → Calls r.name r.body m → IsKnown entered m

  -- the result of the search: that of the walk over the body of the start
  abbrev pub IsSearchResult : Option Closed → Type 0
  IsSearchResult o = (r : SpannedRule) → slice_get views start ≡ Some r
      → Walks views start (start ∷ []) r.name r.body o

  pub record IsSearch (entered : List Bool) (todo : List Task) (path : List ℕ) : Type 0 where
    pub alike : length entered ≡ length views
    pub placed : ArePlaced path todo
    pub answers : (o : Option Closed) → TasksFind path todo o → IsSearchResult o
    pub covered : AreCovered entered path todo
    pub settled : AreSettled entered path
    pub begun : is_set_at entered start ≡ true
    pub entered_all : (k : ℕ) → Contains (ordered path) k → is_set_at entered k ≡ true
    pub last_ones : (k : ℕ) → Contains (ordered path) k → Means views (name_of (slice_get views k)) k

  -- the search goes on
  pub record IsGoing (entered : List Bool) (tasks : List Task) (trail : List ℕ) : Type 0 where
    pub todo : List Task
    pub path : List ℕ
    pub are_tasks : tasks ≡ ordered todo
    pub is_trail : trail ≡ ordered path
    pub state : IsSearch entered todo path

  -- a node closes the trail: its walk is the result of the search
  pub record IsClosing (node : ℕ) (trail : List ℕ) : Type 0 where
    pub call : Spanned
    pub here : slice_get (all_nodes rules) node ≡ Some call
    pub sought : IsSearchResult (Some (record { trail = trail; call = span_of call }))

  -- no walk from the start comes back to it
  abbrev pub NeverComesBack : Type 0
  NeverComesBack = (n : Text) → Means views n start → WalkLeads (said views) n n → ⊥

-- a walk that has not begun
pub record IsIdle (rules : List ParserRule) (walk : Walk) : Type 0 where
  pub alike : length walk.entered.all.items ≡ length rules
  pub entered : NoneSet walk.entered.all.items
  pub trail : walk.trail.items ≡ []
  pub tasks : walk.tasks.items ≡ []
