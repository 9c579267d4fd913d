-- Tables of rules, and right answers for their nodes.
use Rattle.std.specs.Prelude.{◌≡◌, ℕ, List, Some, Bool, slice_get, length}
use Rattle.std.specs.Bool.{Decides}
use Rattle.base_language.specs.Language.Expression.{Expression, Grammar}
use Rattle.base_language.specs.Language.WellFormed.{IsNullable, CannotFail}
use Rattle.front_spanned.specs.Erasure.{without_spans}
use Rattle.front_spanned.specs.Nodes.{view}
use Rattle.front_spanned.specs.Spanned.{Spanned}
use Rattle.front_spanned.specs.declared.node.ParserRule.{ParserRule}
use Rattle.base_graphs.specs.Least.{is_set_at}
use Rattle.front_analysis.specs.Names.{grammar_of}
use Rattle.front_analysis.specs.NameKinds.{kind_in}
use Rattle.front_analysis.specs.Nodes.{all_nodes}
use Rattle.front_analysis.specs.Roots.{AreRoots}
use Rattle.front_analysis.specs.Kinds.{RepresentsNode, Represents, AreNodes}
use Rattle.front_analysis.specs.declared.kind_table.Question.{Question}
use Rattle.front_analysis.specs.declared.kind_table.Question.TheVariants as asks
use Rattle.front_analysis.specs.declared.kind_table.KindTable.{KindTable}
use Rattle.front_analysis.specs.declared.facts.Facts as code

-- the table describes the nodes of all bodies
pub record AreTabled (rules : List ParserRule) (table : KindTable) : Type 0 where
  pub nodes : AreNodes (kind_in (grammar_of rules)) (all_nodes rules) table.kinds.items
  pub roots : AreRoots rules (all_nodes rules) table.roots.items

-- the table has the nodes of the bodies of all rules
pub record IsTableOf (rules : List ParserRule) (table : KindTable) : Type 0 where
  pub alike : length table.roots.items ≡ length rules
  pub stand : (r : ℕ) (i : ℕ) (rule : ParserRule) → slice_get rules r ≡ Some rule
      → slice_get table.roots.items r ≡ Some i
      → RepresentsNode (kind_in (grammar_of rules)) table.kinds.items i (view rule.node)

-- the property of an expression that a question is about
abbrev pub IsTrueOf : Question → Grammar → Expression → Type 0
IsTrueOf asks.TakesNothing g e = IsNullable g e
IsTrueOf asks.CannotFail g e = CannotFail g e

-- answers to a question for all nodes of all rules
abbrev pub AreAnswers : List ParserRule → KindTable → Question → List Bool → Type 0
AreAnswers rules table q answers = (i : ℕ) (e : Expression)
    → Represents (kind_in (grammar_of rules)) table.kinds.items i e
    → Decides (is_set_at answers i) (IsTrueOf q (grammar_of rules) e)

-- these flags are set for the nodes of all bodies that may take nothing
abbrev pub AreNullable : List ParserRule → List Bool → Type 0
AreNullable rules flags = (i : ℕ) (x : Spanned) → slice_get (all_nodes rules) i ≡ Some x
    → Decides (is_set_at flags i) (IsNullable (grammar_of rules) (without_spans x))

-- the facts of rules: their table, which nodes may take nothing, and which cannot fail
pub record AreFacts (rules : List ParserRule) (facts : code.Facts) : Type 0 where
  pub tabled : AreTabled rules facts.table
  pub table : IsTableOf rules facts.table
  pub nullable : AreAnswers rules facts.table asks.TakesNothing facts.nullable.items
  pub certain : AreAnswers rules facts.table asks.CannotFail facts.certain.items
