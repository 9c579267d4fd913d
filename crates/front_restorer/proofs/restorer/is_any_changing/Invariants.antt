use Rattle.std.proofs.Common.{take}
use Rattle.front_restorer.specs.Restoring.{AreQuiet}
use Rattle.front_restorer.proofs.restorer.is_any_changing.Given as goal

abbrev pub invariant-loop-rule : goal.invariant-loop-rule
invariant-loop-rule l = AreQuiet (take l.rule-index l.rules)
