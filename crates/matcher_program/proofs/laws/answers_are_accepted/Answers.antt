use Rattle.matcher_program.proofs.Refusing.{only_memory}
use Rattle.matcher_program.proofs.laws.answers_are_accepted.Goals as goal

pub returns : goal.returns
returns c = only_memory
