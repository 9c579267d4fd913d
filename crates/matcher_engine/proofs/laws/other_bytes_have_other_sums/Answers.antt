use Rattle.matcher_engine.proofs.Sums.{one_byte}
use Rattle.matcher_engine.proofs.laws.other_bytes_have_other_sums.Goals as goal

pub returns : goal.returns
returns c = one_byte
