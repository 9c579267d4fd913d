use Rattle.std.proofs.Common.{List}
use Rattle.front_spanned.specs.declared.node.ParserRule.{ParserRule}
use Rattle.front_analysis.specs.Facts.{AreFacts}
use Rattle.front_validator.specs.Regions.{ArePassingBelow}
use Rattle.front_validator.proofs.passing.passing.Given as goal

abbrev pub invariant-loop-rule : goal.invariant-loop-rule
invariant-loop-rule l = (rules : List ParserRule) → AreFacts rules l.facts → ArePassingBelow rules l.facts.table.roots.items l.rule l.flags.items
