-- The bodies of rules stand in a table.
use Rattle.std.proofs.Common.{List, Bool, ◌++◌, [], sym, subst}
use Rattle.std.proofs.lemmas.List.{append-nil}
use Rattle.front_spanned.specs.Erasure.{without_spans}
use Rattle.front_spanned.specs.Nodes.{view}
use Rattle.front_spanned.specs.Spanned.{Spanned}
use Rattle.front_spanned.specs.declared.node.ParserRule.{ParserRule}
use Rattle.front_analysis.specs.Names.{grammar_of}
use Rattle.front_analysis.specs.Nodes.{all_nodes}
use Rattle.front_analysis.specs.Roots.{AreRoots}
use Rattle.front_analysis.proofs.Numbered.{got_before}
use Rattle.front_analysis.specs.NameKinds.{kind_in}
use Rattle.front_analysis.specs.Kinds.{AreNodes}
use Rattle.front_analysis.specs.Facts.{AreAnswers, AreNullable, AreTabled, IsTableOf}
use Rattle.front_analysis.specs.declared.kind_table.KindTable.{KindTable}
use Rattle.front_analysis.specs.declared.kind_table.Question.TheVariants as asks
use Rattle.front_analysis.proofs.Tying.{stands_at, says}

-- the bodies stand in the table, also where more nodes stand behind those of the rules
pub table_of : (rules : List ParserRule) (table : KindTable) (more : List Spanned) → AreNodes (kind_in (grammar_of rules)) (all_nodes rules ++ more) table.kinds.items → AreRoots rules (all_nodes rules) table.roots.items → IsTableOf rules table
table_of rules table more h r = record {
  alike = r.alike;
  stand = λ k i rule e f. stands_at (kind_in (grammar_of rules)) (all_nodes rules ++ more) table.kinds.items h (view rule.node) i (got_before (all_nodes rules) more i (view rule.node) (r.lie k i rule e f));
}

pub tabled_table : (rules : List ParserRule) (table : KindTable) → AreTabled rules table → IsTableOf rules table
tabled_table rules table h = table_of rules table [] (subst (λ z. AreNodes (kind_in (grammar_of rules)) z table.kinds.items) (sym (append-nil (all_nodes rules))) h.nodes) h.roots

-- answers for all that stands in the table are answers for the nodes of all bodies
pub nullable_nodes : (rules : List ParserRule) (table : KindTable) (flags : List Bool) → AreTabled rules table → AreAnswers rules table asks.TakesNothing flags → AreNullable rules flags
nullable_nodes rules table flags h right i x at =
    let names = kind_in (grammar_of rules) in
    right i (without_spans x) (says names table.kinds.items i x (stands_at names (all_nodes rules) table.kinds.items h.nodes x i at))
