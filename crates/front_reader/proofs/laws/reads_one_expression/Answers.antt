use Rattle.front_reader.proofs.Uniqueness.{reads_once}
use Rattle.front_reader.proofs.laws.reads_one_expression.Goals as goal

pub returns : goal.returns
returns c = λ text category us x y d e. reads_once d e
