use Rattle.std.proofs.Common.{List, take}
use Rattle.front_spanned.specs.declared.node.ParserRule.{ParserRule}
use Rattle.front_analysis.specs.Facts.{AreFacts}
use Rattle.front_validator.specs.Findings.{OfChoice, Reports}
use Rattle.front_analysis.specs.Names.{grammar_of}
use Rattle.front_analysis.specs.Nodes.{all_nodes}
use Rattle.front_validator.specs.Reporting.{AreSpans, findings_of}
use Rattle.front_validator.proofs.findings.choices.Given as goal

abbrev pub invariant-loop-node : goal.invariant-loop-node
invariant-loop-node l = (rules : List ParserRule) → AreFacts rules l.facts → AreSpans rules l.spans
    → Reports (OfChoice (grammar_of rules)) (take l.node (all_nodes rules)) (findings_of l.found.items)
