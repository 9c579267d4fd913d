use Rattle.std.proofs.Common.{◌≡◌, ◌++◌, length}
use Rattle.server_symbols.specs.Folds.{folds_from}
use Rattle.server_symbols.proofs.folding.push_from.Given as goal

abbrev pub invariant-loop-token : goal.invariant-loop-token
invariant-loop-token l = l.folds.items ++ folds_from l.last l.rest ≡ l.initial.folds.items ++ folds_from l.fn.first l.others

abbrev pub decreases-loop-token : goal.decreases-loop-token
decreases-loop-token l = length l.rest
