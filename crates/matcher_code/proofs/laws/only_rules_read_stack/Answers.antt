use Rattle.matcher_code.proofs.CalledReads.{called}
use Rattle.matcher_code.proofs.laws.only_rules_read_stack.Goals as goal

pub returns : goal.returns
returns c = λ g classes m k n x r h s t i w read. called g classes h w read
