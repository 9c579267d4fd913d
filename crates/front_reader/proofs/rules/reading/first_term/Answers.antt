use Rattle.std.proofs.Common.{refl, arith}
use Rattle.front_reader.proofs.Levels.{at_first_term}
use Rattle.front_reader.proofs.rules.reading.first_term.Goals as goal

pub returns-clause-goes_on : goal.returns-clause-goes_on
returns-clause-goes_on c = λ text us h. at_first_term h refl c.leading_tree-term.ensures

pub returns-clause-work : goal.returns-clause-work
returns-clause-work c = rw c.leading_tree-term.ensures (omega arith)
