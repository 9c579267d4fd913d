use Rattle.std.proofs.Common.{◌≡◌, take}
use Rattle.pest_lint.proofs.starts.named_starts.Given as goal

abbrev pub invariant-loop-name : goal.invariant-loop-name
invariant-loop-name l = l.starts.items ≡ take l.name-index l.names
