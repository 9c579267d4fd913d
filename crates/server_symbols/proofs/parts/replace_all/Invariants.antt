use Rattle.std.proofs.Common.{◌≡◌, ◌++◌, length}
use Rattle.server_symbols.specs.Parts.{replaced}
use Rattle.server_symbols.proofs.parts.replace_all.Given as goal

abbrev pub invariant-loop-extent : goal.invariant-loop-extent
invariant-loop-extent l = l.edited.items ++ replaced l.text l.cursor l.rest l.replacement ≡ replaced l.text 0 l.parts l.replacement

abbrev pub decreases-loop-extent : goal.decreases-loop-extent
decreases-loop-extent l = length l.rest
