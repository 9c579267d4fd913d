use Rattle.matcher_compiler.proofs.Numbering.{expected_have, one_name}
use Rattle.matcher_compiler.proofs.names.expected_names_have_own_numbers.Goals as goal

pub returns-clause-numbers : goal.returns-clause-numbers
returns-clause-numbers c = λ g classes k s o place d. expected_have g place d

pub returns-clause-fresh : goal.returns-clause-fresh
returns-clause-fresh c = λ g n m. one_name g n m
