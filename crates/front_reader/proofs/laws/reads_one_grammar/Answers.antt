use Rattle.front_reader.proofs.Uniqueness.{rules_once}
use Rattle.front_reader.proofs.laws.reads_one_grammar.Goals as goal

pub returns : goal.returns
returns c = λ text us rs qs d e. rules_once d e
