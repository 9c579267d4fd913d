-- The analysis of rules that the passes share.
use Rattle.front_analysis.specs.Facts.{AreFacts}
use Rattle.front_analysis.specs.Resolved.{IsResolved}
use Rattle.front_analysis.specs.declared.analysis.Analysis.{Analysis}

-- the rules are resolved, and the facts are those of their nodes
pub record IsAnalysis (made : Analysis) : Type 0 where
  pub resolved : IsResolved made.grammar
  pub facts : AreFacts made.grammar.rules.now made.facts
