-- The numbers of the rules' bodies in the node table.
use Rattle.std.specs.Prelude.{◌≡◌, ℕ, zero, suc, ◌+◌, List, [], ◌∷◌, ◌++◌, Some, length, replicate, slice_get, unwrap_or}
use Rattle.front_spanned.specs.Nodes.{view}
use Rattle.front_spanned.specs.Spanned.{Spanned}
use Rattle.front_spanned.specs.declared.node.ParserRule.{ParserRule}
use Rattle.front_analysis.specs.Layout.{AreNumbered, rule_numbers}
use Rattle.front_analysis.specs.Nodes.{all_nodes, size}
use Rattle.front_analysis.specs.declared.table.Table.{Table}

-- the number of a rule's body
abbrev pub root_of : List ℕ → ℕ → ℕ
root_of roots k = unwrap_or (slice_get roots k) 0

-- the number of the first node of a rule's body, right after the body of the rule before
abbrev pub first_of : List ℕ → ℕ → ℕ
first_of roots zero = 0
first_of roots (suc k) = suc (root_of roots k)

-- these nodes are those of the bodies of the rules, at these indices, one after another, and no others
pub record AreRoots (rules : List ParserRule) (nodes : List Spanned) (roots : List ℕ) : Type 0 where
  pub alike : length roots ≡ length rules
  pub lie : (r i : ℕ) (rule : ParserRule) → slice_get rules r ≡ Some rule → slice_get roots r ≡ Some i
      → slice_get nodes i ≡ Some (view rule.node)
  pub begin : (r i : ℕ) (rule : ParserRule) → slice_get rules r ≡ Some rule → slice_get roots r ≡ Some i
      → first_of roots r + size (view rule.node) ≡ i + 1
  pub full : first_of roots (length roots) ≡ length nodes

-- the numbers of the rules of the nodes, where the first rule has number k
abbrev pub rules_by_node : ℕ → List ParserRule → List ℕ
rules_by_node k [] = []
rules_by_node k (r ∷ rules) = replicate (size (view r.node)) k ++ rules_by_node (suc k) rules

-- the nodes of all bodies, their rules, and the indices of the bodies among them
pub record IsTabled (rules : List ParserRule) (table : Table) : Type 0 where
  pub numbered : AreNumbered (all_nodes rules) table.nodes.items
  pub of_rules : rule_numbers table.nodes.items ≡ rules_by_node 0 rules
  pub roots : AreRoots rules (all_nodes rules) table.roots.items
