use Rattle.std.proofs.Common.{rules}
use Rattle.std.proofs.lemmas.Nat.{le_bytes_8}
use Rattle.format_binary.specs.Format.{size_bytes}
use Rattle.format_binary.proofs.input.size_of.Goals as goal

pub returns : goal.returns
unfolding size_bytes
returns c = le_bytes_8 c.args.bytes _ (search rules) (search rules) c.from_le_bytes.ensures
