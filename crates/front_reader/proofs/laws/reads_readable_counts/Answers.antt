use Rattle.front_reader.proofs.ReadableCounts.{counts_readable}
use Rattle.front_reader.proofs.laws.reads_readable_counts.Goals as goal

pub returns : goal.returns
returns c = λ text us rs d h. counts_readable text d h
