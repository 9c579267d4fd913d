use Rattle.format_binary.proofs.Reading.{front}
use Rattle.format_binary.proofs.input.ByteInput.read_size.Goals as goal

pub returns-in-Some-clause-read : goal.returns-in-Some-clause-read
returns-in-Some-clause-read c = front 8 _ _ c.in-Some.bytes.now _ c.in-Some.ensures.cases.0 c.in-Some.ensures.cases.1 c.size_of.ensures
