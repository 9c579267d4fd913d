use Rattle.std.proofs.Common.{All}
use Rattle.server_features.specs.Earlier.{IsMove}
use Rattle.server_features.proofs.earlier.moves_between.Given as goal

abbrev pub invariant-loop-definition : goal.invariant-loop-definition
invariant-loop-definition l = All (IsMove l.earlier l.text) l.moves.items
