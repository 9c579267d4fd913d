use Rattle.matcher_code.proofs.Until.{until_performs}
use Rattle.matcher_code.proofs.laws.until_operation_finds_text.Goals as goal

pub returns : goal.returns
returns c = until_performs
