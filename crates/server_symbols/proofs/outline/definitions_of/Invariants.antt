use Rattle.std.proofs.Common.{◌≡◌, ◌++◌, length, map}
use Rattle.server_symbols.specs.Tokens.{defined_names, name_of}
use Rattle.server_symbols.proofs.outline.definitions_of.Given as goal

abbrev pub invariant-loop-token : goal.invariant-loop-token
invariant-loop-token l = map name_of l.definitions.items ++ defined_names l.rest ≡ defined_names l.tokens

abbrev pub decreases-loop-token : goal.decreases-loop-token
decreases-loop-token l = length l.rest
