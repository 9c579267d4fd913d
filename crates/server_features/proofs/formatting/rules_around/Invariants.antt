use Rattle.std.proofs.Common.{◌≡◌, length}
use Rattle.server_features.specs.Formatting.{rules_around}
use Rattle.server_features.proofs.formatting.rules_around.Given as goal

abbrev pub invariant-loop-definition : goal.invariant-loop-definition
invariant-loop-definition l = rules_around l.extent l.around l.rest ≡ rules_around l.extent l.extent l.definitions

abbrev pub decreases-loop-definition : goal.decreases-loop-definition
decreases-loop-definition l = length l.rest
