use Rattle.std.proofs.Common.{◌≡◌, take}
use Rattle.matcher_engine.specs.Blocks.{checksum_of}
use Rattle.matcher_engine.proofs.block.head.checksum_of.Given as goal

-- the checksum so far
abbrev pub invariant-loop-byte : goal.invariant-loop-byte
invariant-loop-byte l = l.checksum ≡ checksum_of (take l.byte-index l.bytes)
