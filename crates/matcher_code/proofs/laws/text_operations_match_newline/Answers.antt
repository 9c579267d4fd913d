use Rattle.matcher_code.proofs.Newlines.{newline_performs}
use Rattle.matcher_code.proofs.laws.text_operations_match_newline.Goals as goal

pub returns : goal.returns
returns c = newline_performs
