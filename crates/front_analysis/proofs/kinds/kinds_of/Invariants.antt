use Rattle.std.proofs.Common.{◌≡◌, List, map, take}
use Rattle.front_spanned.specs.declared.node.ParserRule.{ParserRule}
use Rattle.front_analysis.specs.NameMaps.{KnowsRules}
use Rattle.front_analysis.specs.Names.{grammar_of}
use Rattle.front_analysis.specs.NameKinds.{kind_in}
use Rattle.front_analysis.proofs.Tying.{kind_at}
use Rattle.front_analysis.proofs.kinds.kinds_of.Given as goal

abbrev pub invariant-loop-place : goal.invariant-loop-place
invariant-loop-place l = (rules : List ParserRule) → KnowsRules rules l.names
    → l.kinds.items ≡ map (kind_at (kind_in (grammar_of rules))) (take l.place l.nodes)
