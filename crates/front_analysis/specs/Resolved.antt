-- Rules, with names resolved and nodes numbered.
use Rattle.front_analysis.specs.NameMaps.{KnowsRules}
use Rattle.front_analysis.specs.Roots.{IsTabled}
use Rattle.front_analysis.specs.declared.grammar.ResolvedGrammar.{ResolvedGrammar}

-- the names and the nodes are those of the rules
pub record IsResolved (grammar : ResolvedGrammar) : Type 0 where
  pub known : KnowsRules grammar.rules.now grammar.names
  pub tabled : IsTabled grammar.rules.now grammar.table
