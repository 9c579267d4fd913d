use Rattle.std.proofs.Common.{◌≡◌, ◌*◌, length, take}
use Rattle.matcher_code.specs.Words.{pairs_in}
use Rattle.format_code.proofs.lists.pairs_bytes.Given as goal

-- the pairs so far
abbrev pub invariant-loop-low : goal.invariant-loop-low
invariant-loop-low l =
    (pairs_in l.bytes.items ≡ take l.low-index l.pairs) × (length l.bytes.items ≡ l.low-index * 8)
