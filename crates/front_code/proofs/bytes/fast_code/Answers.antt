use Rattle.front_code.proofs.ByteLemmas.{fast_bytes}
use Rattle.front_code.proofs.FusedLists.{fast_fusion}
use Rattle.front_code.proofs.bytes.fast_code.Goals as goal

pub returns : goal.returns
returns c = record { code = fast_bytes; fused = fast_fusion }
