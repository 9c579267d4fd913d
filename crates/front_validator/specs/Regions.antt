-- The range of nodes of a rule's body in the node table.
use Rattle.std.specs.Prelude.{◌≡◌, ℕ, ◌+◌, ◌<◌, ◌≤◌, List, Bool, Some, length, slice_get}
use Rattle.std.specs.Bool.{Decides}
use Rattle.base_language.specs.Language.WellFormed.{IsNullable}
use Rattle.front_spanned.specs.Erasure.{without_spans}
use Rattle.front_spanned.specs.Nodes.{rule_views}
use Rattle.front_spanned.specs.Spanned.{Spanned, SpannedRule}
use Rattle.front_spanned.specs.declared.node.ParserRule.{ParserRule}
use Rattle.base_graphs.specs.Least.{is_set_at}
use Rattle.front_validator.specs.LeftRecursion.{said, Means}
use Rattle.front_analysis.specs.Nodes.{size, all_nodes}
use Rattle.front_analysis.specs.Roots.{root_of, first_of}
use Rattle.front_validator.specs.Walk.{without}

-- the node of this number, with all that is inside it, is one of the body of the rule at k
pub record IsNodeOf (rules : List ParserRule) (roots : List ℕ) (k i : ℕ) (x : Spanned) : Type 0 where
  pub node : slice_get (all_nodes rules) i ≡ Some x
  pub first : first_of roots k + size x ≤ i + 1
  pub last : i ≤ root_of roots k

-- the flags of the nodes of the rule at k, if it is the last of its name, say which of them may take
-- nothing where a call of that rule takes something
abbrev pub ArePassingAt : List ParserRule → List ℕ → List Bool → ℕ → Type 0
ArePassingAt rules roots flags k = (i : ℕ) (r : SpannedRule) (x : Spanned)
    → slice_get (rule_views rules) k ≡ Some r → Means (rule_views rules) r.name k → IsNodeOf rules roots k i x
    → Decides (is_set_at flags i) (IsNullable (without r.name (said (rule_views rules))) (without_spans x))

-- such flags for the nodes of that rule, as far as there are flags
abbrev pub ArePassingSoFar : List ParserRule → List ℕ → List Bool → ℕ → Type 0
ArePassingSoFar rules roots flags k = (i : ℕ) (r : SpannedRule) (x : Spanned)
    → slice_get (rule_views rules) k ≡ Some r → Means (rule_views rules) r.name k → IsNodeOf rules roots k i x
    → i < length flags
    → Decides (is_set_at flags i) (IsNullable (without r.name (said (rule_views rules))) (without_spans x))

-- such flags for the nodes of all rules
abbrev pub ArePassing : List ParserRule → List ℕ → List Bool → Type 0
ArePassing rules roots flags = (k : ℕ) → ArePassingAt rules roots flags k

-- such flags for the nodes of the first rules, and for no more nodes
pub record ArePassingBelow (rules : List ParserRule) (roots : List ℕ) (m : ℕ) (flags : List Bool)
    : Type 0 where
  pub long : length flags ≡ first_of roots m
  pub right : (k : ℕ) → k < m → ArePassingAt rules roots flags k
