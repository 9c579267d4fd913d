use Rattle.std.proofs.Common.{refl}
use Rattle.matcher_engine.specs.Blocks.{checksum_of}
use Rattle.matcher_engine.proofs.laws.checksums_are_fnv_1a.Goals as goal

pub returns : goal.returns
unfolding checksum_of
returns c = record { empty = refl; one_byte = refl; six_bytes = refl }
