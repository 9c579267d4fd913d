use Rattle.std.proofs.Common.{rules}
use Rattle.format_binary.proofs.Reading.{index_back}
use Rattle.format_binary.proofs.input.index_of.Goals as goal

pub returns : goal.returns
returns c = index_back c.args.bytes c.from_le_bytes.result (search rules) (search rules) c.from_le_bytes.ensures
