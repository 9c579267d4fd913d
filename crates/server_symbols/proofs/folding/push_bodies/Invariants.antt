use Rattle.std.proofs.Common.{◌≡◌, ◌++◌, length}
use Rattle.server_symbols.specs.Folds.{body_folds}
use Rattle.server_symbols.proofs.folding.push_bodies.Given as goal

abbrev pub invariant-loop-definition : goal.invariant-loop-definition
invariant-loop-definition l = l.folds.items ++ body_folds l.rest ≡ l.initial.folds.items ++ body_folds l.definitions

abbrev pub decreases-loop-definition : goal.decreases-loop-definition
decreases-loop-definition l = length l.rest
