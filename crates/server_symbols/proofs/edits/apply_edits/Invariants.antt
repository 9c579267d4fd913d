use Rattle.std.proofs.Common.{◌≡◌, ◌++◌, length}
use Rattle.server_symbols.specs.Edits.{edited}
use Rattle.server_symbols.proofs.edits.apply_edits.Given as goal

abbrev pub invariant-loop-edit : goal.invariant-loop-edit
invariant-loop-edit l = l.bytes.items ++ edited l.text l.other l.cursor l.rest ≡ edited l.text l.other 0 l.edits

abbrev pub decreases-loop-edit : goal.decreases-loop-edit
decreases-loop-edit l = length l.rest
