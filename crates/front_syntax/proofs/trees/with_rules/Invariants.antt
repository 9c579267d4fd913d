use Rattle.std.proofs.Common.{◌≡◌, ◌++◌, drop}
use Rattle.front_syntax.specs.Building.{nodes_from}
use Rattle.front_syntax.proofs.trees.with_rules.Given as goal

abbrev pub invariant-loop-number : goal.invariant-loop-number
invariant-loop-number l = l.all.items ++ nodes_from l.number (drop l.number l.nodes) ≡ nodes_from 0 l.nodes
