use Rattle.std.proofs.Common.{◌≡◌, ◌++◌, length}
use Rattle.server_symbols.specs.Occurrences.{names_of}
use Rattle.server_symbols.proofs.outline.definitions_named.Given as goal

abbrev pub invariant-loop-definition : goal.invariant-loop-definition
invariant-loop-definition l = l.found.items ++ names_of l.text l.name l.rest ≡ names_of l.text l.name l.definitions

abbrev pub decreases-loop-definition : goal.decreases-loop-definition
decreases-loop-definition l = length l.rest
