use Rattle.std.proofs.Common.{◌≤◌, ◌-◌, ◌++◌, List, length}
use Rattle.server_symbols.specs.Lexemes.{AreTokensFrom}
use Rattle.server_symbols.specs.declared.tokens.Token.{Token}
use Rattle.server_symbols.proofs.tokens.tokens_of.Given as goal

abbrev pub invariant-loop-start : goal.invariant-loop-start
invariant-loop-start l = (l.start ≤ length l.bytes)
    × ((others : List Token) → AreTokensFrom l.bytes l.start others → AreTokensFrom l.bytes 0 (l.tokens.items ++ others))

abbrev pub decreases-loop-start : goal.decreases-loop-start
decreases-loop-start l = length l.bytes - l.start
