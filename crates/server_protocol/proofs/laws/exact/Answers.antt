use Rattle.server_protocol.proofs.Counting.{exact_lem}
use Rattle.server_protocol.proofs.laws.exact.Goals as goal

pub returns : goal.returns
returns c = exact_lem
