use Rattle.front_code.proofs.ByteLemmas.{exact_bytes}
use Rattle.front_code.proofs.FusedLists.{exact_fusion}
use Rattle.front_code.proofs.bytes.exact_code.Goals as goal

pub returns : goal.returns
returns c = record { code = exact_bytes; fused = exact_fusion }
