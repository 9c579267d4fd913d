-- Texts in JSON that are read as rules.
use Rattle.std.specs.Prelude.{◌≡◌, ℕ, Option, Some, List, codes, map, string_bytes}
use Rattle.serde_json.specs.Data.{Data, array, string}
use Rattle.serde_json.specs.Find.{get}
use Rattle.serde_json.specs.Read.{read}
use Rattle.serde_json.specs.View.{items_of}
use Rattle.base_language.specs.Language.Expression.{Expression, Grammar}
use Rattle.base_language.specs.Language.Grammar.{FitsItsTypes}
use Rattle.base_language.specs.Language.WellFormed.{InSomeRule}
use Rattle.base_ast.specs.declared.ast.RuleType.{RuleType}
use Rattle.base_ast.specs.declared.ast.Rule as bare
use Rattle.base_ast.specs.declared.optimized.OptimizedRule.{OptimizedRule}
use Rattle.format_json.specs.Format.{nodes_of, optimized_nodes_of, type_name}

-- the members of an object that a rule is read from
pub record Members : Type 0 where
  pub name : Option Data
  pub type_of : Option Data
  pub body : Option Data

abbrev pub members_of : Data → Members
members_of d = record {
  name = get (codes "name") d;
  type_of = get (codes "type") d;
  body = get (codes "expr") d;
}

-- the members of a rule of that name and type, whose body has these nodes
abbrev pub rule_members : List ℕ → RuleType → List Data → Members
rule_members name ty nodes = record {
  name = Some (string name);
  type_of = Some (string (type_name ty));
  body = Some (array (items_of nodes));
}

abbrev pub members_of_rule : bare.Rule → Members
members_of_rule r = rule_members (string_bytes r.name) r.ty (nodes_of r.expr)

abbrev pub members_of_optimized : OptimizedRule → Members
members_of_optimized r = rule_members (string_bytes r.name) r.ty (optimized_nodes_of r.expr)

-- the text is a list in JSON, of objects with these members
abbrev pub Lists : List ℕ → List Members → Type 0
Lists text wanted = (ds : List Data) × (read text ≡ Some (array (items_of ds))) × (map members_of ds ≡ wanted)

-- the numbers of the rules fit their types, and their texts are texts, as those of rules of code
abbrev pub FitTheirTypes : Grammar → Type 0
FitTheirTypes g = (p : Expression) → InSomeRule g p → FitsItsTypes p

-- the text has these rules
abbrev pub AreRules : List ℕ → List bare.Rule → Type 0
AreRules text rules = Lists text (map members_of_rule rules)

abbrev pub AreOptimizedRules : List ℕ → List OptimizedRule → Type 0
AreOptimizedRules text rules = Lists text (map members_of_optimized rules)
