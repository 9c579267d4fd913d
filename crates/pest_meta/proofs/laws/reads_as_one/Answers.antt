use Rattle.pest_meta.proofs.OneReading.{reads_as_one}
use Rattle.pest_meta.proofs.laws.reads_as_one.Goals as goal

pub returns : goal.returns
returns c = reads_as_one
