use Rattle.std.proofs.Common.{◌≡◌, ◌++◌, [], length}
use Rattle.server_symbols.specs.Selections.{brackets_from}
use Rattle.server_symbols.proofs.selection.brackets_from.Given as goal

abbrev pub invariant-loop-token : goal.invariant-loop-token
invariant-loop-token l = l.brackets.items ++ brackets_from l.offset l.starts.items l.rest ≡ brackets_from l.offset [] l.tokens

abbrev pub decreases-loop-token : goal.decreases-loop-token
decreases-loop-token l = length l.rest
