use Rattle.std.proofs.Common.{◌≡◌, take}
use Rattle.front_spanned.specs.Nodes.{rule_views}
use Rattle.front_validator.specs.LeftRecursion.{arrows}
use Rattle.front_validator.proofs.CycleLemmas.{arrowed}
use Rattle.front_validator.proofs.recursions.cycle_of.Given as goal

abbrev pub invariant-loop-rule : goal.invariant-loop-rule
invariant-loop-rule l = arrowed l.names.items ≡ arrows (rule_views l.rules) (take l.rule-index l.trail)
